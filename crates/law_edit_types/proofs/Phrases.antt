-- The words IF NOT EXISTS, which may come before a name.
use Rattle.std.proofs.Common.{◌≡◌, Bool, true, false, cond, List, [], ◌∷◌, refl, Option, Some, None}
use Rattle.std.specs.Option.{option_and_then}
use Rattle.law_edit_inserts.specs.sql_keyword.declared.words.TheConstants.Keyword as keyword
use Rattle.law_edit_inserts.specs.sql_token.declared.terminal.Terminal.{Terminal}
use Rattle.law_edit_inserts.specs.sql_token.Terminal.{is_keyword}
use Rattle.law_edit_inserts.specs.sql_tree.declared.forms.Captures.{Captures}
use Rattle.law_edit_inserts.specs.sql_tree.declared.forms.Fact.TheVariants as m
use Rattle.law_edit_inserts.specs.sql_tree.declared.forms.Phrase.TheVariants as phrase
use Rattle.law_edit_inserts.specs.sql_tree.Forms.{State, at, record_fact, take_phrase, words_of, after_words}

-- the phrase, by which of its words are there
unfoldable pub phrase_by : Captures → Bool → Bool → Bool → List Terminal → Option State
phrase_by c p q r rest = cond p (cond q (cond r (Some (at (record_fact m.Guarded c) rest)) None) None) None

pub phrase_is : (c : Captures) (x y z : Terminal) (rest : List Terminal) → take_phrase phrase.IfNotExists m.Guarded c (x ∷ y ∷ z ∷ rest) ≡ phrase_by c (is_keyword keyword.IF x) (is_keyword keyword.NOT y) (is_keyword keyword.EXISTS z) rest
unfolding words_of phrase_by
phrase_is c x y z rest = by (is_keyword keyword.IF x) (is_keyword keyword.NOT y) (is_keyword keyword.EXISTS z)
  where
    take : Option (List Terminal) → Option State
    take o = option_and_then (λ rest. Some (at (record_fact m.Guarded c) rest)) o

    by : (p q r : Bool) → take (option_and_then (after_words (keyword.NOT ∷ keyword.EXISTS ∷ [])) (cond p (Some (y ∷ z ∷ rest)) None)) ≡ phrase_by c p (is_keyword keyword.NOT y) (is_keyword keyword.EXISTS z) rest
    by false q r = refl
    by true q r = second (is_keyword keyword.NOT y)
      where
        third : (r : Bool) → take (option_and_then (after_words []) (cond r (Some rest) None)) ≡ cond r (Some (at (record_fact m.Guarded c) rest)) None
        third true = refl
        third false = refl

        second : (q : Bool) → take (option_and_then (after_words (keyword.EXISTS ∷ [])) (cond q (Some (z ∷ rest)) None)) ≡ cond q (cond (is_keyword keyword.EXISTS z) (Some (at (record_fact m.Guarded c) rest)) None) None
        second true = third (is_keyword keyword.EXISTS z)
        second false = refl

-- the second word is another
pub second_none : (c : Captures) (x t : Terminal) (us : List Terminal) → is_keyword keyword.NOT t ≡ false → take_phrase phrase.IfNotExists m.Guarded c (x ∷ t ∷ us) ≡ None
unfolding words_of
second_none c x t us h = by (is_keyword keyword.IF x)
  where
    by : (p : Bool) → option_and_then (λ rest. Some (at (record_fact m.Guarded c) rest)) (option_and_then (after_words (keyword.NOT ∷ keyword.EXISTS ∷ [])) (cond p (Some (t ∷ us)) None)) ≡ None
    by false = refl
    by true = λ i. option_and_then (λ rest. Some (at (record_fact m.Guarded c) rest)) (option_and_then (after_words (keyword.EXISTS ∷ [])) (cond (h i) (Some us) None))
