-- The keys of a table, one by one.
use Rattle.std.proofs.Common.{◌≡◌, refl, true, false, List, [], ◌∷◌, Some, None, String, Global, string_bytes}
use Rattle.toml.specs.View.{members_view}
use Rattle.toml.specs.declared.value.Value.{Value}
use Rattle.toml.proofs.Views.{Entry}
use Rattle.check_config.specs.Config.{is_key, unknown_key}

pub key_next : (entries left : List Entry) (key : String Global) (value : Value) → entries ≡ (key, value) ∷ left → is_key (string_bytes key) ≡ true
    → unknown_key (members_view entries) ≡ unknown_key (members_view left)
key_next entries left key value cut known = rw (cut, known) refl

pub key_here : (entries left : List Entry) (key : String Global) (value : Value) → entries ≡ (key, value) ∷ left → is_key (string_bytes key) ≡ false
    → unknown_key (members_view entries) ≡ Some (string_bytes key)
key_here entries left key value cut unknown = rw (cut, unknown) refl

pub key_last : (entries : List Entry) → entries ≡ [] → unknown_key (members_view entries) ≡ None
key_last entries none = rw none refl
