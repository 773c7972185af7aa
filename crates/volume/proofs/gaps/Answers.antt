-- A turn takes the first of the gaps that are left; when none is left, the list is filled.
use Rattle.model.proofs.Prelude.{◌∙◌, ap, length-map, map, rules, ◌*◌, ◌<◌}
use Rattle.std.proofs.lemmas.Iterator.Consumers.{YieldsList-turn, YieldsList-end}
use Rattle.std.specs.declared.iter.Enumerate.{Enumerate}
use Rattle.std.specs.declared.iter.Take.{Take}
use Rattle.gaps.specs.declared.Gaps.{Gaps}
use Rattle.gaps.specs.Gaps.{gap_of, gaps_left}
use Rattle.gaps.proofs.Filling.{next_number, all_of_them, numbered_taken, gap_fits, gaps_room, gaps_next, gaps_end, gaps_told}
use Rattle.volume.proofs.gaps.Goals as goal

pub loop-i-preserved : goal.loop-i-preserved
loop-i-preserved c =
    let gs = map gap_of (gaps_left c.args.v.now c.judge.new.marks 0) in
    let k = ap (λ (e : Enumerate (Take Gaps)). e.iter.n) c.into_iter-i-iterator.ensures.into_iter_gives
    ∙ ap (λ (t : Take Gaps). t.n) c.enumerate-i-items.ensures.source ∙ c.take.ensures.count ∙ c.in_ok-n.ensures.seen.count in
    let road = numbered_taken c.into_iter-i-iterator.result gs (cc) (rw length-map k) (cc) in
    let t = YieldsList-turn road c.loop-i.yielded _ c.loop-i.yielded_by _ c.next.new.self
    (c.in-Some.i, c.in-Some.gap) c.in-Some.is c.next.ensures.steps in
    gaps_next _ c.loop-i.yielded _ c.in-Some.i c.in-Some.gap c.loop-i.invariant (next_number gs _ _ _ t).0

pub returns-in_err-n : goal.returns-in_err-n
returns-in_err-n c = search (rules, gaps_told, c.in_err-n.ensures)

pub of-requires : goal.of-requires
of-requires c = let s = c.in_ok-n.ensures.seen in (s.long, s.pages)

pub bounds-list-i : goal.bounds-list-i
bounds-list-i c =
    let gs = map gap_of (gaps_left c.args.v.now c.judge.new.marks 0) in
    let k = ap (λ (e : Enumerate (Take Gaps)). e.iter.n) c.into_iter-i-iterator.ensures.into_iter_gives
    ∙ ap (λ (t : Take Gaps). t.n) c.enumerate-i-items.ensures.source ∙ c.take.ensures.count ∙ c.in_ok-n.ensures.seen.count in
    let road = numbered_taken c.into_iter-i-iterator.result gs (cc) (rw length-map k) (cc) in
    let t = YieldsList-turn road c.loop-i.yielded _ c.loop-i.yielded_by _ c.next.new.self
    (c.in-Some.i, c.in-Some.gap) c.in-Some.is c.next.ensures.steps in
    gaps_room _ _ _ _ _ _ c.in_ok-n.ensures.seen (next_number gs _ _ _ t).1 c.loop-i.auto.list

pub offset_bounds-list-i : goal.offset_bounds-list-i
offset_bounds-list-i c =
    let gs = map gap_of (gaps_left c.args.v.now c.judge.new.marks 0) in
    let k = ap (λ (e : Enumerate (Take Gaps)). e.iter.n) c.into_iter-i-iterator.ensures.into_iter_gives
    ∙ ap (λ (t : Take Gaps). t.n) c.enumerate-i-items.ensures.source ∙ c.take.ensures.count ∙ c.in_ok-n.ensures.seen.count in
    let road = numbered_taken c.into_iter-i-iterator.result gs (cc) (rw length-map k) (cc) in
    let t = YieldsList-turn road c.loop-i.yielded _ c.loop-i.yielded_by _ c.next.new.self
    (c.in-Some.i, c.in-Some.gap) c.in-Some.is c.next.ensures.steps in
    let b : c.in-Some.i * 16 < 18446744073709551616 = gap_fits c.args.list.now _ _ _ _ c.in_ok-n.ensures.seen (next_number gs _ _ _ t).1 in
    search rules

pub returns : goal.returns
returns c =
    let gs = map gap_of (gaps_left c.args.v.now c.judge.new.marks 0) in
    let k = ap (λ (e : Enumerate (Take Gaps)). e.iter.n) c.into_iter-i-iterator.ensures.into_iter_gives
    ∙ ap (λ (t : Take Gaps). t.n) c.enumerate-i-items.ensures.source ∙ c.take.ensures.count ∙ c.in_ok-n.ensures.seen.count in
    let road = numbered_taken c.into_iter-i-iterator.result gs (cc) (rw length-map k) (cc) in
    let t = YieldsList-end road c.loop-i.yielded _ c.loop-i.yielded_by _ c.next.new.self c.in-None.is c.next.ensures.steps in
    (c.in_ok-n.ensures.answer, gaps_end _ _ _ _ _ c.loop-i.yielded c.in_ok-n.ensures.seen c.loop-i.invariant (all_of_them gs _ t.0))
