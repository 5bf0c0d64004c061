-- The text that is made of a fix is mended.
use Rattle.std.proofs.Common.{◌≡◌, ◌∙◌, ◌<◌, ◌^◌, ℕ, List, [], ◌∷◌, length, sym, ap, subst, Some}
use Rattle.std.proofs.lemmas.List.Elements.{All-nil, All-cons, All-weaker}
use Rattle.std.specs.Prelude.{IfOk, Result, Ok, Err}
use Rattle.law_type_fixes.specs.sql_tree.Statement.{Tree}
use Rattle.law_type_fixes.specs.lint_base.Fixes.{FixValue}
use Rattle.law_type_fixes.specs.law_fixes.Edited.{edited}
use Rattle.law_type_fixes.specs.law_fixes.Mended.{FixesMend, FixMends, Mended, Table, WithWord, builds, dropped, rebuilt, detached}
use Rattle.law_type_fixes.specs.law_fixes.Timeouts.{SetMended}
use Rattle.law_type_fixes.proofs.of_law_fixes.Detached.{detached_mend}
use Rattle.law_type_fixes.proofs.of_law_fixes.Fixed.{builds_mend, dropped_mend, rebuilt_mend}
use Rattle.law_type_fixes.proofs.of_law_fixes.TimeoutFixes.{timeouts_mend}
use Rattle.law_type_fixes.specs.Mended.{AreApart, TypeFixesMend, TypeFixMends, WithRun}
use Rattle.law_type_fixes.specs.Rules.{type_table, ints, smallints, timestamps, varchars}
use Rattle.law_type_fixes.proofs.Fixes.{ints_mend, smallints_mend, timestamps_mend, varchars_mend}
use Rattle.law_type_fixes.proofs.Inners.{inners_become_words}
use Rattle.law_type_fixes.proofs.LastNames.{names_become_words}
use Rattle.fix_edit.specs.Answer.{CanBeMade, IsAnswer}
use Rattle.fix_edit.specs.Mends.{IsMended, SetMends, TypeMends, WordMends}
use Rattle.fix_edit.specs.declared.error.FixError.{FixError}

module _ (text : List ℕ) (fix : FixValue) (made : List ℕ) (can : CanBeMade text fix.edits) (is : made ≡ edited text fix.edits) where
  short_in : (tree : Tree) → tree.text ≡ text → length (edited tree.text fix.edits) < 2 ^ 32
  short_in tree same = subst (λ (t : List ℕ). length (edited t fix.edits) < 2 ^ 32) (sym same) can.short

  made_in : (tree : Tree) → tree.text ≡ text → made ≡ edited tree.text fix.edits
  made_in tree same = is ∙ ap (λ (t : List ℕ). edited t fix.edits) (sym same)

  word_mends : (table : Table) → FixesMend table → WordMends text fix made table
  word_mends table law tree rules settings same read =
      All-weaker (FixMends table tree rules settings)
      (λ v. v.fix ≡ Some fix → (made ≡ edited tree.text fix.edits) × Mended table tree rules settings v fix.edits (WithWord tree fix.edits))
      (λ v h e. (made_in tree same, h fix e (short_in tree same))) (table tree rules settings) (law tree rules settings read)

  type_mends : (table : Table) → TypeFixesMend table → TypeMends text fix made table
  type_mends table law apart tree rules settings same read =
      All-weaker (TypeFixMends table tree rules settings)
      (λ v. v.fix ≡ Some fix → (made ≡ edited tree.text fix.edits) × Mended table tree rules settings v fix.edits (WithRun tree fix.edits))
      (λ v h e. (made_in tree same, h fix e (subst (λ (t : List ℕ). AreApart t fix.edits) (sym same) apart) (short_in tree same)))
      (table tree rules settings) (law tree rules settings read)

  set_mends : SetMends text fix made
  set_mends tree rules same read =
      All-weaker (λ v. (f : FixValue) → v.fix ≡ Some f → length (edited tree.text f.edits) < 2 ^ 32 → SetMended v.code tree rules f.edits)
      (λ v. v.fix ≡ Some fix → (made ≡ edited tree.text fix.edits) × SetMended v.code tree rules fix.edits)
      (λ v h e. (made_in tree same, h fix e (short_in tree same))) _ (timeouts_mend tree rules read)

  is_mended : IsMended text fix made
  is_mended = record {
    words = All-cons (WordMends text fix made) builds (dropped ∷ rebuilt ∷ detached ∷ []) (word_mends builds builds_mend)
        (All-cons (WordMends text fix made) dropped (rebuilt ∷ detached ∷ []) (word_mends dropped dropped_mend)
        (All-cons (WordMends text fix made) rebuilt (detached ∷ []) (word_mends rebuilt rebuilt_mend)
        (All-cons (WordMends text fix made) detached [] (word_mends detached detached_mend) (All-nil (WordMends text fix made)))));
    types = All-cons (TypeMends text fix made) (type_table varchars) (type_table timestamps ∷ type_table ints ∷ type_table smallints ∷ []) (type_mends (type_table varchars) (varchars_mend inners_become_words))
        (All-cons (TypeMends text fix made) (type_table timestamps) (type_table ints ∷ type_table smallints ∷ []) (type_mends (type_table timestamps) (timestamps_mend inners_become_words))
        (All-cons (TypeMends text fix made) (type_table ints) (type_table smallints ∷ []) (type_mends (type_table ints) (ints_mend names_become_words))
        (All-cons (TypeMends text fix made) (type_table smallints) [] (type_mends (type_table smallints) (smallints_mend names_become_words)) (All-nil (TypeMends text fix made)))));
    sets = set_mends;
  }

pub made_mends : {X : Type 0} (bytes : X → List ℕ) (text : List ℕ) (fix : FixValue) (r : Result X FixError) → IsAnswer text fix.edits bytes r → IfOk r (λ made. IsMended text fix (bytes made))
made_mends bytes text fix (Ok x) h = is_mended text fix (bytes x) h.0 h.1
made_mends bytes text fix (Err e) h = tt
