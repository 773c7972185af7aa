-- The gate and the first checks refuse as the model does; what is left is the append, with the inode that becomes valid.
use Rattle.naming.proofs.Calls.{gate_make, good_here, create_told, one_ready, add_long, create_below, create_there, create_comes}
use Rattle.naming.proofs.make.Goals as goal

pub returns-in_err-count : goal.returns-in_err-count
returns-in_err-count c = search (gate_make, c.in_err-count.ensures)

pub create_checks-requires : goal.create_checks-requires
create_checks-requires c = search (good_here, c.in_ok-count.ensures)

pub returns-in_err-inode : goal.returns-in_err-inode
returns-in_err-inode c =
    let g = c.in_ok-count.ensures in let l = c.args.list.now in
    let t = create_told _ l _ _ _ _ g in search (t, c.in_err-inode.ensures)

pub append_entries-requires : goal.append_entries-requires
append_entries-requires c =
    let r = c.to_folder-a.ensures in let o = c.add_words-e.ensures in
    let h = c.in_ok-inode.ensures in let g = c.in_ok-count.ensures in
    let l = c.args.list.now in let k = c.args.kind in
    one_ready _ l _ _ _ _ g _ _ _ _ _ _ r _ _ o (add_long _ _) (create_below _ l _ _ _ _ g k _ _ _ h) (create_there _ l _ _ _ _ g k _ _ _ h)

pub returns : goal.returns
returns c =
    let r = c.to_folder-a.ensures in let o = c.add_words-e.ensures in
    let h = c.in_ok-inode.ensures in let g = c.in_ok-count.ensures in
    create_comes _ _ _ _ _ _ g c.args.kind _ _ _ h _ o _ r _ _ c.append_entries.ensures
