use Rattle.std.proofs.Common.{◌≡◌, arith, Some}
use Rattle.serde_json.specs.Find.{as_array}
use Rattle.serde_json.specs.View.{items_view, view}
use Rattle.diag_json.proofs.ItemCount.{few_items}
use Rattle.diag_json.proofs.read.read_value.Goals as goal

pub read_items-requires : goal.read_items-requires
read_items-requires c =
    let list : as_array (view c.in_ok-value.value) ≡ Some (items_view c.as_slice.result.now) = grind (arith, c.as_array.ensures, c.as_slice.ensures.value, c.in_ok-items.ensures.value, c.in_ok-items.ensures.ok_part) in
    omega (arith, few_items c.args.text.now (view c.in_ok-value.value) c.as_slice.result.now c.in_ok-value.ensures.ok list, c.requires)
