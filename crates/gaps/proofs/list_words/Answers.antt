-- A turn lays the first of the gaps that are left; when none is left, the list is filled.
use Rattle.model.proofs.Prelude.{◌∙◌, ap, length-map, map, refl, rules}
use Rattle.std.proofs.lemmas.Iterator.Consumers.{YieldsList-turn, YieldsList-end}
use Rattle.std.specs.declared.iter.Enumerate.{Enumerate}
use Rattle.std.specs.declared.iter.Take.{Take}
use Rattle.gaps.specs.declared.Gaps.{Gaps}
use Rattle.gaps.specs.Gaps.{gap_of, gaps_left}
use Rattle.gaps.proofs.Filling.{next_number, all_of_them, numbered_taken, words_room, words_next, words_end, words_told, words_of}
use Rattle.gaps.proofs.list_words.Goals as goal

pub of-requires : goal.of-requires
of-requires c = let s = c.in_ok-n.ensures.seen in (s.long, s.pages)

pub put_pair-requires : goal.put_pair-requires
put_pair-requires c =
    let gs = map gap_of (gaps_left c.args.v.now c.judge.new.marks 0) in
    let k = ap (λ (e : Enumerate (Take Gaps)). e.iter.n) c.into_iter-i-iterator.ensures.into_iter_gives
    ∙ ap (λ (t : Take Gaps). t.n) c.enumerate-i-items.ensures.source ∙ c.take.ensures.count ∙ c.in_ok-n.ensures.seen.count in
    let road = numbered_taken c.into_iter-i-iterator.result gs (cc) (rw length-map k) (cc) in
    let t = YieldsList-turn road c.loop-i.yielded _ c.loop-i.yielded_by _ c.next.new.self
    (c.in-Some.i, c.in-Some.gap) c.in-Some.is c.next.ensures.steps in
    words_room _ _ _ _ _ _ c.in_ok-n.ensures.seen (next_number gs _ _ _ t).1 (search rules)

pub returns-in_err-n : goal.returns-in_err-n
returns-in_err-n c = search (rules, words_told, c.in_err-n.ensures)

pub loop-i-preserved : goal.loop-i-preserved
loop-i-preserved c =
    let gs = map gap_of (gaps_left c.args.v.now c.judge.new.marks 0) in
    let k = ap (λ (e : Enumerate (Take Gaps)). e.iter.n) c.into_iter-i-iterator.ensures.into_iter_gives
    ∙ ap (λ (t : Take Gaps). t.n) c.enumerate-i-items.ensures.source ∙ c.take.ensures.count ∙ c.in_ok-n.ensures.seen.count in
    let road = numbered_taken c.into_iter-i-iterator.result gs (cc) (rw length-map k) (cc) in
    let t = YieldsList-turn road c.loop-i.yielded _ c.loop-i.yielded_by _ c.next.new.self
    (c.in-Some.i, c.in-Some.gap) c.in-Some.is c.next.ensures.steps in
    words_next _ c.loop-i.yielded _ _ c.in-Some.i c.in-Some.gap c.loop-i.invariant (next_number gs _ _ _ t).0 c.put_pair.ensures

pub returns : goal.returns
returns c =
    let gs = map gap_of (gaps_left c.args.v.now c.judge.new.marks 0) in
    let k = ap (λ (e : Enumerate (Take Gaps)). e.iter.n) c.into_iter-i-iterator.ensures.into_iter_gives
    ∙ ap (λ (t : Take Gaps). t.n) c.enumerate-i-items.ensures.source ∙ c.take.ensures.count ∙ c.in_ok-n.ensures.seen.count in
    let road = numbered_taken c.into_iter-i-iterator.result gs (cc) (rw length-map k) (cc) in
    let t = YieldsList-end road c.loop-i.yielded _ c.loop-i.yielded_by _ c.next.new.self c.in-None.is c.next.ensures.steps in
    (c.in_ok-n.ensures.answer, words_end _ _ _ _ _ c.loop-i.yielded c.in_ok-n.ensures.seen c.loop-i.invariant (all_of_them gs _ t.0))

pub loop-i-init : goal.loop-i-init
unfolding words_of
loop-i-init c = refl
