-- The pages, the first group and what commits it; where it has no room, nothing.
use Rattle.model.proofs.Prelude.{refl, ap, not, rules}
use Rattle.append.proofs.Whole.{ready_long, ready_short, ready_tail, ready_second, ready_inodes, ready_pages, ready_nine, ready_marks, refuses_data, refuses_log, lay_asks, rest_asks, second_asks, new_asks, commit_asks, fills}
use Rattle.append.proofs.make.Goals as goal

pub of-sizes-requires : goal.of-sizes-requires
of-sizes-requires c = search (rules, ready_long)

pub old_tail-tail-requires : goal.old_tail-tail-requires
old_tail-tail-requires c = search (rules, ready_short, ready_tail)

pub old_tail-second_tail-requires : goal.old_tail-second_tail-requires
old_tail-second_tail-requires c = search (rules, ready_short, ready_second)

pub free_count-free-requires : goal.free_count-free-requires
free_count-free-requires c = search (rules, ready_pages)

pub take_pages-requires : goal.take_pages-requires
take_pages-requires c = (search (rules, ready_pages), search (rules, ready_marks), search (rules, ready_nine))

pub returns-then-not-take_pages : goal.returns-then-not-take_pages
returns-then-not-take_pages c =
    refuses_data _ _ _ _ _ _ c.requires _ c.of-sizes.ensures.0 c.of-sizes.ensures.1 _ _ c.old_tail-tail.ensures
    c.old_tail-second_tail.ensures _
    c.free_count-free.ensures _ _ _ _ c.take_pages.ensures (ap not c.if-not-take_pages.true)

pub returns-in_err-room : goal.returns-in_err-room
returns-in_err-room c =
    refuses_log _ _ _ _ _ _ c.requires _ c.of-sizes.ensures.0 c.of-sizes.ensures.1 _ _ c.old_tail-tail.ensures
    c.old_tail-second_tail.ensures _
    c.free_count-free.ensures _ _ _ _ c.take_pages.ensures (ap not c.if-not-take_pages.false) _ _ _ c.put_stretches-more.ensures.0
    c.put_stretches-more.ensures.1 refl _ _ c.pages_needed-needed.ensures.0 c.pages_needed-second_needed.ensures.0 _ _ c.from_residual.ensures.1
    c.in_err-room.ensures

pub lay_log-g-requires : goal.lay_log-g-requires
lay_log-g-requires c =
    lay_asks _ _ _ _ _ _ c.requires _ c.of-sizes.ensures.0 c.of-sizes.ensures.1 _ _ c.old_tail-tail.ensures c.old_tail-second_tail.ensures _
    c.free_count-free.ensures _ _ _ _ c.take_pages.ensures (ap not c.if-not-take_pages.false) _ _ _ c.put_stretches-more.ensures.0
    c.put_stretches-more.ensures.1 refl _ _ c.pages_needed-needed.ensures.0 c.pages_needed-second_needed.ensures.0 _ c.in_ok-room.ensures

pub put_rest-requires : goal.put_rest-requires
put_rest-requires c =
    rest_asks _ _ _ _ _ _ c.requires _ c.of-sizes.ensures.0 c.of-sizes.ensures.1 _ _ c.old_tail-tail.ensures
    c.old_tail-second_tail.ensures _
    c.free_count-free.ensures _ _ _ _ c.take_pages.ensures (ap not c.if-not-take_pages.false) _ _ _ c.put_stretches-more.ensures.0
    c.put_stretches-more.ensures.1 refl _ _ c.pages_needed-needed.ensures.0 c.pages_needed-second_needed.ensures.0 _ c.in_ok-room.ensures _ _ c.lay_log-g.ensures

pub lay_second-h-requires : goal.lay_second-h-requires
lay_second-h-requires c =
    second_asks _ _ _ _ _ _ c.requires _ c.of-sizes.ensures.0 c.of-sizes.ensures.1 _ _ c.old_tail-tail.ensures
    c.old_tail-second_tail.ensures
    _ c.free_count-free.ensures _ _ _ _ c.take_pages.ensures (ap not c.if-not-take_pages.false) _ _ _ c.put_stretches-more.ensures.0
    c.put_stretches-more.ensures.1 refl _ _ c.pages_needed-needed.ensures.0 c.pages_needed-second_needed.ensures.0 _ c.in_ok-room.ensures _ _ c.lay_log-g.ensures _ _ _ c.put_rest.ensures.0 c.put_rest.ensures.1

pub put_new-end-requires : goal.put_new-end-requires
put_new-end-requires c =
    new_asks _ _ _ _ _ _ c.requires _ c.of-sizes.ensures.0 c.of-sizes.ensures.1 _ _ c.old_tail-tail.ensures c.old_tail-second_tail.ensures _
    c.free_count-free.ensures _ _ _ _ c.take_pages.ensures (ap not c.if-not-take_pages.false) _ _ _ c.put_stretches-more.ensures.0
    c.put_stretches-more.ensures.1 refl _ _ c.pages_needed-needed.ensures.0 c.pages_needed-second_needed.ensures.0 _ c.in_ok-room.ensures _ _ c.lay_log-g.ensures _ _ _ c.put_rest.ensures.0 c.put_rest.ensures.1 _ _ _
    c.lay_second-h.ensures

pub to_commit-filled-requires : goal.to_commit-filled-requires
to_commit-filled-requires c = let i = ready_inodes _ _ _ _ _ _ c.requires in (i.0, i.1, i.2, search rules)

pub commit-requires : goal.commit-requires
commit-requires c =
    commit_asks _ _ _ _ _ _ c.requires _ c.of-sizes.ensures.0 c.of-sizes.ensures.1 _ _ c.old_tail-tail.ensures
    c.old_tail-second_tail.ensures
    _ c.free_count-free.ensures _ _ _ _ c.take_pages.ensures (ap not c.if-not-take_pages.false) _ _ _ c.put_stretches-more.ensures.0
    c.put_stretches-more.ensures.1 refl _ _ c.pages_needed-needed.ensures.0 c.pages_needed-second_needed.ensures.0 _ c.in_ok-room.ensures _ _ c.lay_log-g.ensures _ _ _ c.put_rest.ensures.0 c.put_rest.ensures.1 _ _ _
    c.lay_second-h.ensures _ _ _ _ _ _ _ _ _ c.put_new-end.ensures.0 c.put_new-end.ensures.1 c.to_commit-filled.ensures.0
    (search rules) c.to_commit-filled.ensures.1

pub returns : goal.returns
returns c =
    fills _ _ _ _ _ _ c.requires _ c.of-sizes.ensures.0 c.of-sizes.ensures.1 _ _ c.old_tail-tail.ensures c.old_tail-second_tail.ensures _
    c.free_count-free.ensures _ _ _ _ c.take_pages.ensures (ap not c.if-not-take_pages.false) _ _ _ c.put_stretches-more.ensures.0
    c.put_stretches-more.ensures.1 refl _ _ c.pages_needed-needed.ensures.0 c.pages_needed-second_needed.ensures.0 _ c.in_ok-room.ensures _ _ _ _ _ _ _ _ _ _ _ _ _ c.lay_log-g.ensures c.put_rest.ensures.0 c.lay_second-h.ensures
    c.put_new-end.ensures.0 c.to_commit-filled.ensures.0 (search rules) c.to_commit-filled.ensures.1 c.commit.ensures.0
    c.commit.ensures.1
