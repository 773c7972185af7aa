-- What `all` answers is std's word for it, and that is the definition's.
use Rattle.std.proofs.Common.{sym, ◌∙◌, rules, tests}
use Rattle.std.proofs.lemmas.Iterator.{YieldsList-from_slice}
use Rattle.std.proofs.lemmas.Iterator.Search.{all_from_yields_List}
use Rattle.model.specs.Entry.{name_byte_ok}
use Rattle.lookup.proofs.Bytes.{all_bytes}
use Rattle.lookup.proofs.bytes_ok.Goals as goal

pub returns : goal.returns
returns c =
    let n = c.args.name.now in
    all_from_yields_List name_byte_ok _ _ _ c.all.ensures.ran (YieldsList-from_slice n cc) (λ x b q k. search (rules, tests)) ∙ sym (all_bytes n)
