-- The gate and the first checks refuse as the model does; what is left is the append, with the inode that is let go.
use Rattle.model.proofs.Prelude.{rules}
use Rattle.naming.proofs.Calls.{gate_told, good_here, good_low, unlink_told, unlink_below, unlink_there, unlink_i, lost_low, some_inodes}
use Rattle.naming.proofs.Calls.{one_ready}
use Rattle.naming.proofs.Calls.{remove_long, unlink_comes}
use Rattle.naming.proofs.unlink.Goals as goal

pub returns-in_err-count : goal.returns-in_err-count
returns-in_err-count c = search (gate_told, c.in_err-count.ensures)

pub unlink_checks-requires : goal.unlink_checks-requires
unlink_checks-requires c = search (good_here, c.in_ok-count.ensures)

pub returns-in_err-inode : goal.returns-in_err-inode
returns-in_err-inode c =
    let g = c.in_ok-count.ensures in let l = c.args.list.now in
    let t = unlink_told _ l _ _ _ _ g in search (t, c.in_err-inode.ensures)

pub released-last-requires : goal.released-last-requires
released-last-requires c =
    let h = c.in_ok-inode.ensures in let g = c.in_ok-count.ensures in
    let l = c.args.list.now in
    let a = good_low _ l _ _ _ _ g _ (unlink_below _ l _ _ _ _ g _ _ _ h) in search (rules, a)

pub append_entries-requires : goal.append_entries-requires
append_entries-requires c =
    let r = c.to_folder-a.ensures in let o = c.remove_words-e.ensures in
    let z = c.released-last.ensures in
    let h = c.in_ok-inode.ensures in let g = c.in_ok-count.ensures in
    let l = c.args.list.now in
    let i = unlink_i _ l _ _ _ _ g _ _ _ h in
    let t = unlink_there _ l _ _ _ _ g _ _ _ h in
    let y = one_ready _ l _ _ _ _ g _ _ _ _ _ _ r _ _ o (remove_long _) in
    let a = lost_low _ l _ _ _ _ g _ _ _ i _ z in let b = some_inodes _ l _ _ _ _ g in search (y, t, a, b)

pub returns : goal.returns
returns c =
    let r = c.to_folder-a.ensures in let o = c.remove_words-e.ensures in
    let z = c.released-last.ensures in
    let h = c.in_ok-inode.ensures in let g = c.in_ok-count.ensures in
    unlink_comes _ _ _ _ _ _ g _ _ _ h _ z _ o _ r _ _ c.append_entries.ensures
