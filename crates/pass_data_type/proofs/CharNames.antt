-- A word is in lower case already.
use Rattle.std.proofs.Common.{◌≡◌, ◌∙◌, sym, ap, refl, ℕ, false, List, [], ◌∷◌, map}
use Rattle.std.proofs.lemmas.Str.Ascii.{lowercase-lowercase}
use Rattle.std.specs.Char.{to_ascii_lowercase}
use Rattle.std.specs.Prelude.{if◌then◌else◌}
use Rattle.lint_pass.specs.sql_name.Name.{full_name, unquoted}
use Rattle.std.specs.Prelude.{drop}
use Rattle.pass_data_type.specs.BanCharField.{is_quoted}

lower_twice : (t : List ℕ) → map to_ascii_lowercase (map to_ascii_lowercase t) ≡ map to_ascii_lowercase t
lower_twice [] = refl
lower_twice (c ∷ t) = (λ i. lowercase-lowercase c i ∷ lower_twice t i)

pub lower_name : (t : List ℕ) → is_quoted t ≡ false → map to_ascii_lowercase (full_name t) ≡ full_name t
unfolding full_name
lower_name t plain =
    let word : full_name t ≡ map to_ascii_lowercase t = (λ i. if plain i then unquoted (drop 1 t) else map to_ascii_lowercase t) in
    ap (map to_ascii_lowercase) word ∙ (lower_twice t ∙ sym word)
