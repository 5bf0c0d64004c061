-- The items of a list.
use Rattle.std.proofs.Common.{◌≡◌, ◌∙◌, ℕ, suc, ◌-◌, List, [], ◌∷◌, Some, length, option_and_then, refl, ap, sym}
use Rattle.serde_json.specs.Data.{Data, array, boolean, null, number, object, string}
use Rattle.serde_json.specs.Events.{items_len}
use Rattle.serde_json.specs.Find.{as_array, at, get_item}
use Rattle.serde_json.specs.View.{items_view}
use Rattle.serde_json.specs.declared.value.Value.{Value}
use Rattle.lsp_read.specs.Params.{last_item}

items_len-view : (values : List Value) → items_len (items_view values) ≡ length values
items_len-view [] = refl
items_len-view (v ∷ values) = ap suc (items_len-view values)

by_place : (n : ℕ) (d : Data) → at n d ≡ option_and_then (get_item n) (as_array d)
by_place n null = refl
by_place n (boolean b) = refl
by_place n (number x) = refl
by_place n (string s) = refl
by_place n (array items) = refl
by_place n (object entries) = refl

-- the last item of a list of values is the one at its last place
pub last_by_place : (d : Data) (values : List Value) → as_array d ≡ Some (items_view values) → at (length values - 1) d ≡ option_and_then last_item (as_array d)
last_by_place d values is =
    by_place (length values - 1) d
    ∙ ap (option_and_then (get_item (length values - 1))) is
    ∙ ap (λ n. get_item (n - 1) (items_view values)) (sym (items_len-view values))
    ∙ ap (option_and_then last_item) (sym is)
