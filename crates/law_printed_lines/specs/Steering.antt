-- What is printed on lines steers no terminal.
use Rattle.std.specs.Prelude.{◌≡◌, ◌==◌, ℕ, All, Bool, false, not, ◌&&◌, ◌||◌, List, [], ◌∷◌, get_or}
use Rattle.check_print.specs.declared.style.Style.{Style}
use Rattle.check_print.specs.Printed.{printed}
use Rattle.check_print.specs.check_words.declared.request.Format.TheVariants as format
use Rattle.check_print.specs.checked_file.declared.checked.Checked.{Checked}
use Rattle.law_printed_lines.specs.Escapes.{is_control}
use Rattle.law_printed_lines.specs.Unique.{IsShort, style_in}

-- such a character begins with these bytes, and it is no line feed
abbrev pub is_steering : ℕ → ℕ → ℕ → Bool
is_steering a b c = not (a == 10) && is_control a b c

-- there is such a character in a text
abbrev pub has_steering : List ℕ → Bool
has_steering [] = false
has_steering (a ∷ rest) = is_steering a (get_or rest 0 0) (get_or rest 1 0) || has_steering rest

-- Whatever the names and the texts of files are, of control characters only line feeds are printed, and nothing that turns the direction of
-- a text.
abbrev pub SteerNothing : Type 0
SteerNothing = (style : Style) (files : List Checked) → All IsShort files
    → (has_steering (printed (style_in format.Concise style) files) ≡ false) × (has_steering (printed (style_in format.Gcc style) files) ≡ false)
    × (has_steering (printed (style_in format.Github style) files) ≡ false)
