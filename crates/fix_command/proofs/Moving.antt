-- Fixes at their places in a text, one by one.
use Rattle.std.proofs.Common.{◌≡◌, ◌+◌, ◌<◌, ℕ, List, [], ◌∷◌, ◌++◌, All, get_or, length, subst, sym, take}
use Rattle.std.specs.List.{AllZip}
use Rattle.std.specs.Str.{IsCharBoundary}
use Rattle.std.proofs.lemmas.List.Elements.{All-cons, All-nil, all_zip_more}
use Rattle.fix_text.specs.other_fix.declared.other.OtherFix.{OtherFix}
use Rattle.fix_text.specs.sql_token.Token.{Text}
use Rattle.fix_command.specs.Places.{AreMoved, IsMoved}

-- one fix more
pub one_more : (t : Text) (others made more : List OtherFix) (i : ℕ) (other moved : OtherFix) → i < length others → other ≡ get_or others i other → more ≡ made ++ moved ∷ []
    → AreMoved t (take i others) made → IsMoved t other moved → AreMoved t (take (i + 1) others) more
one_more t others made more i other moved lt is e before one =
    subst (λ (ms : List OtherFix). AreMoved t (take (i + 1) others) ms) (sym e) (all_zip_more (IsMoved t) others made i other moved lt is before one)

-- each is between two characters
pub placed : (t : Text) (others moved : List OtherFix) → AreMoved t others moved → All (λ m. IsCharBoundary t m.at) moved
placed t [] [] h = All-nil (λ m. IsCharBoundary t m.at)
placed t [] (m ∷ ms) h = absurd h
placed t (o ∷ os) [] h = absurd h
placed t (o ∷ os) (m ∷ ms) h = All-cons (λ m. IsCharBoundary t m.at) m ms h.0.place.boundary (placed t os ms h.1)
