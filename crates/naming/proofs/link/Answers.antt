-- The gate and the checks refuse as the model does; what is left is the append.
use Rattle.naming.proofs.Calls.{gate_told, good_here, link_bad, given_inodes, link_not, both_there, some_inodes, one_ready, add_long, link_comes}
use Rattle.naming.proofs.link.Goals as goal

pub returns-in_err-count : goal.returns-in_err-count
returns-in_err-count c = search (gate_told, c.in_err-count.ensures)

pub given-requires : goal.given-requires
given-requires c = search (good_here, c.in_ok-count.ensures)

pub returns-in_err-given : goal.returns-in_err-given
returns-in_err-given c =
    let g = c.in_ok-count.ensures in let l = c.args.list.now in
    let t = link_bad _ l _ _ _ _ g in search (t, c.in_err-given.ensures)

pub look_up-leads-requires : goal.look_up-leads-requires
look_up-leads-requires c = search (good_here, c.in_ok-count.ensures)

pub link_checks-requires : goal.link_checks-requires
link_checks-requires c =
    let w = c.look_up-leads.ensures in
    let h = c.in_ok-given.ensures in let g = c.in_ok-count.ensures in
    let l = c.args.list.now in
    let a = good_here _ l _ _ _ _ g in let b = given_inodes _ l _ _ _ _ g _ _ _ _ h _ w in search (a, b)

pub returns-in_err-inode : goal.returns-in_err-inode
returns-in_err-inode c =
    let g = c.in_ok-count.ensures in let l = c.args.list.now in
    let t = link_not _ l _ _ _ _ g in search (t, c.in_ok-given.ensures, c.in_err-inode.ensures)

pub append_entries-requires : goal.append_entries-requires
append_entries-requires c =
    let r = c.to_folder-a.ensures in let o = c.add_words-e.ensures in
    let w = c.look_up-leads.ensures in
    let h = c.in_ok-given.ensures in let g = c.in_ok-count.ensures in
    let l = c.args.list.now in
    let t = both_there _ l _ _ _ _ g _ _ _ _ h _ w in
    let y = one_ready _ l _ _ _ _ g _ _ _ _ _ _ r _ _ o (add_long _ _) (some_inodes _ l _ _ _ _ g) in search (y, t)

pub returns : goal.returns
returns c =
    let r = c.to_folder-a.ensures in let o = c.add_words-e.ensures in
    let w = c.look_up-leads.ensures in
    let h = c.in_ok-given.ensures in let g = c.in_ok-count.ensures in
    link_comes _ _ _ _ _ _ g _ _ _ _ h _ w _ c.in_ok-inode.ensures _ o _ r _ _ c.append_entries.ensures
