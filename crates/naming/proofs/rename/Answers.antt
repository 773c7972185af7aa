-- The gate and the checks refuse as the model does; what is left is nothing, or the append with the inode that is let go.
use Rattle.model.proofs.Prelude.{refl}
use Rattle.naming.proofs.Calls.{gate_told, good_here, tree_here, good_low, rename_bad, given_inodes, rename_not, rename_none}
use Rattle.naming.proofs.Calls.{rename_ready, rename_comes_lem}
use Rattle.naming.proofs.rename.Goals as goal

pub returns-in_err-count : goal.returns-in_err-count
returns-in_err-count c = search (gate_told, c.in_err-count.ensures)

pub given-requires : goal.given-requires
given-requires c = search (good_here, c.in_ok-count.ensures)

pub returns-in_err-given : goal.returns-in_err-given
returns-in_err-given c =
    let g = c.in_ok-count.ensures in let l = c.args.list.now in
    let t = rename_bad _ l _ _ _ _ g in search (t, c.in_err-given.ensures)

pub look_up-leads-requires : goal.look_up-leads-requires
look_up-leads-requires c = search (good_here, c.in_ok-count.ensures)

pub rename_checks-requires : goal.rename_checks-requires
rename_checks-requires c =
    let w = c.look_up-leads.ensures in
    let h = c.in_ok-given.ensures in let g = c.in_ok-count.ensures in
    let l = c.args.list.now in
    let a = good_here _ l _ _ _ _ g in let x = tree_here _ l _ _ _ _ g in
    let b = given_inodes _ l _ _ _ _ g _ _ _ _ h _ w in search (a, x, b)

pub returns-in_err-inode : goal.returns-in_err-inode
returns-in_err-inode c =
    let g = c.in_ok-count.ensures in let l = c.args.list.now in
    let t = rename_not _ l _ _ _ _ g in search (t, c.in_ok-given.ensures, c.in_err-inode.ensures)

pub returns-then-inode-eq0 : goal.returns-then-inode-eq0
returns-then-inode-eq0 c =
    let g = c.in_ok-count.ensures in let l = c.args.list.now in
    let t = rename_none _ l _ _ _ _ g in search (t, c.in_ok-given.ensures, c.in_ok-inode.ensures)

pub released-last-requires : goal.released-last-requires
released-last-requires c =
    let w = c.look_up-leads.ensures in
    let h = c.in_ok-given.ensures in let g = c.in_ok-count.ensures in
    let l = c.args.list.now in
    let i = given_inodes _ l _ _ _ _ g _ _ _ _ h _ w in
    let x = good_low _ l _ _ _ _ g _ i.old in let y = good_low _ l _ _ _ _ g _ i.new in search (x, y)

pub append_entries-requires : goal.append_entries-requires
append_entries-requires c =
    let r = c.between_folders.ensures in let q1 = c.put_entry-2.ensures in
    let q0 = c.put_entry.ensures in let z = c.released-last.ensures in
    let o = c.if-inode-eq0.false in let y = c.in_ok-inode.ensures in
    let w = c.look_up-leads.ensures in
    let h = c.in_ok-given.ensures in let g = c.in_ok-count.ensures in
    let l = c.args.list.now in
    let y = rename_ready _ l _ _ _ _ g _ _ _ _ h _ w _ y o _ z _ _ _ _ _ q0 q1 refl _ r in search y

pub returns : goal.returns
returns c =
    let r = c.between_folders.ensures in let q1 = c.put_entry-2.ensures in
    let p1 = c.add_words.ensures in let q0 = c.put_entry.ensures in
    let p0 = c.remove_words.ensures in let z = c.released-last.ensures in
    let o = c.if-inode-eq0.false in let y = c.in_ok-inode.ensures in
    let w = c.look_up-leads.ensures in
    let h = c.in_ok-given.ensures in let g = c.in_ok-count.ensures in
    rename_comes_lem _ _ _ _ _ _ g _ _ _ _ h _ w _ y o _ z _ _ _ _ _ q0 q1 refl _ r p0 p1 _ _ c.append_entries.ensures
