use Rattle.std.proofs.Common.{codes}
use Rattle.squawk_generate.specs.Made.{index_on}
use Rattle.squawk_generate.proofs.MadeText.{table_regrouped}
use Rattle.squawk_generate.proofs.made.push_table.Goals as goal

pub returns : goal.returns
returns c =
    let e0 = c.in_ok-extend_from_slice.ensures.items in
    let e1 = c.in_ok-extend_from_slice-2.ensures.items in
    let e2 = c.in_ok-extend_from_slice-3.ensures.items in
    let e3 = c.in_ok-push_index_on.ensures in
    let e4 = c.in_ok-extend_from_slice-4.ensures.items in
    let number = c.args.number.now in
    let j = table_regrouped c.args.text.now.items (codes "BEGIN; CREATE TABLE t") number (codes " (id int); ") (index_on number) (codes " COMMIT;\n") in cc
