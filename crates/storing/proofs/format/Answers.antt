-- The sizes decide the answer; the zeros and then the header's words are the definition's.
use Rattle.model.proofs.Prelude.{rules}
use Rattle.storing.proofs.Formatting.{not_answer, not_volume, few_inodes, table_in, table_part, header_in, done_answer, done_volume}
use Rattle.storing.proofs.format.Goals as goal

pub table_end-table-requires : goal.table_end-table-requires
table_end-table-requires c = search (rules, few_inodes)

pub slice_bounds-fill-end : goal.slice_bounds-fill-end
slice_bounds-fill-end c = search (rules, table_in)

pub slice_bounds-fill-end-2 : goal.slice_bounds-fill-end-2
slice_bounds-fill-end-2 c = search (rules, table_part)

pub put_header-requires : goal.put_header-requires
put_header-requires c = search (rules, header_in)

pub returns-then-not-sizes_fit : goal.returns-then-not-sizes_fit
returns-then-not-sizes_fit c = record { answer = search (rules, not_answer); bytes = search (rules, not_volume) }

pub returns : goal.returns
returns c =
    record {
      answer = search (rules, done_answer);
      bytes = (let z = c.fill.ensures.after (λ y e. e) in search (rules, done_volume));
    }
