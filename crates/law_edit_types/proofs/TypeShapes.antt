-- The terminals that a type is read of.
use Rattle.std.proofs.Common.{◌≡◌, ◌<◌, ◌⊎◌, inl, inr, ℕ, zero, suc, ◌+◌, Bool, true, false, cond, List, [], ◌∷◌, ◌++◌, length, take, drop, sym, refl, ap, ◌∙◌, subst, arith, Option, Some, None}
use Rattle.std.proofs.lemmas.Bool.{false≢true, and_parts}
use Rattle.std.proofs.lemmas.Bool.Decides.{nat_tests}
use Rattle.std.specs.Prelude.{◌==◌, ◌&&◌, ◌||◌, not}
use Rattle.std.specs.Option.{option_and_then}
use Rattle.law_edit_inserts.specs.sql_keyword.declared.words.Keyword.{Keyword}
use Rattle.law_edit_inserts.specs.sql_keyword.declared.words.Keyword.TheVariants as k
use Rattle.law_edit_inserts.specs.sql_keyword.declared.words.Verb.TheVariants as verbs
use Rattle.law_edit_inserts.specs.sql_keyword.declared.words.Object.TheVariants as objects
use Rattle.law_edit_inserts.specs.sql_keyword.declared.words.Other.TheVariants as others
use Rattle.law_edit_inserts.specs.sql_keyword.declared.words.TheConstants.Keyword as keyword
use Rattle.law_edit_inserts.specs.sql_keyword.Same.{same_keyword}
use Rattle.law_edit_inserts.specs.sql_token.declared.token.Span.{Span}
use Rattle.law_edit_inserts.specs.sql_token.declared.terminal.Symbol.{Symbol}
use Rattle.law_edit_inserts.specs.sql_token.declared.terminal.Symbol.TheVariants as s
use Rattle.law_edit_inserts.specs.sql_token.declared.terminal.Terminal.{Terminal}
use Rattle.law_edit_inserts.specs.sql_token.Terminal.{is_keyword, is_keyword_symbol, is_opener, is_closer, is_closer_symbol, is_opener_symbol, is_name, is_name_symbol, is_dot, is_dot_symbol}
use Rattle.law_edit_inserts.specs.sql_token.Depth.{span_of, one_if, opened, closed}
use Rattle.law_edit_inserts.specs.sql_tree.declared.nodes.ColType.{ColType}
use Rattle.law_edit_inserts.specs.sql_tree.declared.nodes.TyKind.{TyKind}
use Rattle.law_edit_inserts.specs.sql_tree.declared.nodes.TyKind.TheVariants as kind
use Rattle.law_edit_inserts.specs.sql_tree.Forms.{either_of, names_end}
use Rattle.law_edit_inserts.specs.sql_tree.Groups.{is_empty, is_list, path_first}
use Rattle.law_edit_inserts.specs.sql_tree.Split.{closing, begins_with, begins_list, is_open_round_symbol}
use Rattle.law_edit_inserts.specs.sql_tree.ColumnType.{plain_of, arguments, with_arguments, after_varying, character_type, double_type, is_time_zone, zone, list_len, maybe_span, time_type, word_type, symbol_type, path_type, plain_type}
use Rattle.law_edit_inserts.specs.law_edit_cuts.Runs.{is_run_from}
use Rattle.law_edit_inserts.proofs.of_law_edit_cuts.Nested.{open_not_closed, opened_is, closed_is}
use Rattle.law_edit_inserts.proofs.Leading.{Given, given_then, given_any}
use Rattle.law_edit_types.specs.Runs.{last_or, is_unnamed}
use Rattle.law_edit_types.specs.Types.{is_replaced, IsLoose}
use Rattle.law_edit_types.proofs.TypeRuns.{run_join}

-- ---- closed lists

-- Names and closed brackets, with no word SET or BY at the end, after e.
pub record ClosedEnd (d : ℕ) (e : Terminal) (ts : List Terminal) : Type 0 where
  pub closed : is_run_from is_unnamed d ts ≡ true
  pub loose : IsLoose (last_or e ts)

closer_loose_symbol : (x : Symbol) → is_closer_symbol x ≡ true → (is_keyword_symbol keyword.SET x ≡ false) × (is_keyword_symbol keyword.BY x ≡ false)
closer_loose_symbol s.CloseRound h = (refl, refl)
closer_loose_symbol s.CloseSquare h = (refl, refl)
closer_loose_symbol x h = absurd (false≢true h)

pub closer_loose : (t : Terminal) → is_closer t ≡ true → IsLoose t
unfolding is_closer is_keyword
closer_loose t h = let p = closer_loose_symbol t.symbol h in record { set = p.0; by = p.1 }

opens_to : (d : ℕ) (t : Terminal) (ts : List Terminal) → is_opener t ≡ true → is_run_from is_unnamed d (t ∷ ts) ≡ is_run_from is_unnamed (suc d) ts
opens_to zero t ts h = λ i. cond (not (h i || is_name t || is_dot t)) false (cond (h i) (is_run_from is_unnamed 1 ts) (cond (is_closer t) false (is_run_from is_unnamed 0 ts)))
opens_to (suc d) t ts h = λ i. cond (h i) (is_run_from is_unnamed (suc (suc d)) ts) (cond (is_closer t) (is_run_from is_unnamed d ts) (is_run_from is_unnamed (suc d) ts))

closes_to : (d : ℕ) (t : Terminal) (ts : List Terminal) → is_opener t ≡ false → is_closer t ≡ true → is_run_from is_unnamed (suc d) (t ∷ ts) ≡ is_run_from is_unnamed d ts
closes_to d t ts p q = λ i. cond (p i) (is_run_from is_unnamed (suc (suc d)) ts) (cond (q i) (is_run_from is_unnamed d ts) (is_run_from is_unnamed (suc d) ts))

passes_to : (d : ℕ) (t : Terminal) (ts : List Terminal) → is_opener t ≡ false → is_closer t ≡ false → is_run_from is_unnamed (suc d) (t ∷ ts) ≡ is_run_from is_unnamed (suc d) ts
passes_to d t ts p q = λ i. cond (p i) (is_run_from is_unnamed (suc (suc d)) ts) (cond (q i) (is_run_from is_unnamed d ts) (is_run_from is_unnamed (suc d) ts))

pub no_brackets : (x : Symbol) → (is_name_symbol x || is_dot_symbol x) ≡ true → (is_opener_symbol x ≡ false) × (is_closer_symbol x ≡ false)
no_brackets (s.Keyword w) h = (refl, refl)
no_brackets s.Word h = (refl, refl)
no_brackets s.Quoted h = (refl, refl)
no_brackets s.Dot h = (refl, refl)
no_brackets x h = absurd (false≢true h)

pub named_to : (t : Terminal) (ts : List Terminal) → (is_name t || is_dot t) ≡ true → is_run_from is_unnamed 0 (t ∷ ts) ≡ is_run_from is_unnamed 0 ts
unfolding is_name is_dot is_opener is_closer
named_to t ts h =
    let none = no_brackets t.symbol h in
    let p = none.0 in let q = none.1 in
    let named = test (is_name_symbol t.symbol) (is_dot_symbol t.symbol) h in
    (λ i. cond (not (p i || is_name_symbol t.symbol || is_dot_symbol t.symbol)) false (cond (p i) (is_run_from is_unnamed 1 ts) (cond (q i) false (is_run_from is_unnamed 0 ts))))
    ∙ (λ i. cond (named i) false (is_run_from is_unnamed 0 ts))
  where
    test : (a b : Bool) → (a || b) ≡ true → not (false || a || b) ≡ false
    test true b h = refl
    test false true h = refl
    test false false h = absurd (false≢true h)

far : (c d : ℕ) → (c + suc d + 1 == c + 0) ≡ false
far c d = grind (arith, nat_tests)

near : (c : ℕ) → (c + 1 + 0 == c + 1) ≡ true
near c = grind (arith, nat_tests)

deeper : (c d : ℕ) → (c + suc (suc d) + 0 == c + 1) ≡ false
deeper c d = grind (arith, nat_tests)

same : (c d : ℕ) → (c + suc d + 0 == c + 0) ≡ false
same c d = grind (arith, nat_tests)

-- The list that closes d + 1 open brackets: it is closed, or is all that is left, with one bracket open at least.
abbrev Closing : ℕ → ℕ → Terminal → List Terminal → Type 0
Closing c d e ts = ClosedEnd (suc d) e (take (closing (c + suc d) c ts) ts) ⊎ ((closed ts < opened ts + suc d) × (closing (c + suc d) c ts ≡ length ts))

abbrev step_by : Bool → ℕ → ℕ
step_by b n = cond b 1 (suc n)

list_closes : (c d : ℕ) (e : Terminal) (ts : List Terminal) → Closing c d e ts
list_closes c d e [] = inr (omega arith, refl)
list_closes c d e (t ∷ ts) = by (is_opener t) (is_closer t) refl refl (λ c d. list_closes c d t ts)
  where
    is : (o c' : ℕ) (a b : Bool) (n : ℕ) → is_opener t ≡ a → is_closer t ≡ b → (c + suc d + one_if a == c + one_if b) ≡ false → c + suc d + one_if a ≡ o → c + one_if b ≡ c' → closing o c' ts ≡ n → closing (c + suc d) c (t ∷ ts) ≡ suc n
    is o c' a b n p q test x y z =
        (λ i. step_by (c + suc d + one_if (p i) == c + one_if (q i)) (closing (c + suc d + one_if (p i)) (c + one_if (q i)) ts))
        ∙ (λ i. step_by (test i) (closing (x i) (y i) ts)) ∙ ap suc z

    further : (d' : ℕ) (n : ℕ) → closing (c + suc d) c (t ∷ ts) ≡ suc n → ((ks : List Terminal) → is_run_from is_unnamed (suc d) (t ∷ ks) ≡ is_run_from is_unnamed d' ks) → ClosedEnd d' t (take n ts) → ClosedEnd (suc d) e (take (closing (c + suc d) c (t ∷ ts)) (t ∷ ts))
    further d' n p same h = subst (λ (x : ℕ). ClosedEnd (suc d) e (take x (t ∷ ts))) (sym p) (record { closed = same (take n ts) ∙ h.closed; loose = h.loose })

    by : (a b : Bool) → is_opener t ≡ a → is_closer t ≡ b → ((c d : ℕ) → Closing c d t ts) → Closing c d e (t ∷ ts)
    by true b p q each =
        let none = open_not_closed t p in
        let o = opened_is t ts true p in let z = closed_is t ts false none in
        let n = is (c + suc (suc d)) c true false (closing (c + suc (suc d)) c ts) p none (far c d) (omega arith) (omega arith) refl in
        elim (each c (suc d)) [
          | inl h ↦ inl (further (suc (suc d)) _ n (λ ks. opens_to (suc d) t ks p) h)
          | inr h ↦ (let low = h.0 in inr (omega arith, n ∙ ap suc h.1))
        ]
    by false true p q each = at d refl
      where
        at : (d' : ℕ) → d ≡ d' → Closing c d e (t ∷ ts)
        at zero z =
            let test : (c + suc d + 0 == c + 1) ≡ true = (λ i. c + suc (z i) + 0 == c + 1) ∙ near c in
            let one : closing (c + suc d) c (t ∷ ts) ≡ 1 =
            (λ i. step_by (c + suc d + one_if (p i) == c + one_if (q i)) (closing (c + suc d + one_if (p i)) (c + one_if (q i)) ts)) ∙ (λ i. step_by (test i) (closing (c + suc d + 0) (c + 1) ts)) in
            inl (subst (λ (x : ℕ). ClosedEnd (suc d) e (take x (t ∷ ts))) (sym one) (record { closed = closes_to d t [] p q ∙ (λ i. is_run_from is_unnamed (z i) []); loose = closer_loose t q }))
        at (suc d') z =
            let test : (c + suc d + 0 == c + 1) ≡ false = (λ i. c + suc (z i) + 0 == c + 1) ∙ deeper c d' in
            let o = opened_is t ts false p in let y = closed_is t ts true q in
            let n = is (c + 1 + suc d') (c + 1) false true (closing (c + 1 + suc d') (c + 1) ts) p q test (omega (arith, z)) refl refl in
            elim (each (c + 1) d') [
              | inl h ↦ inl (further (suc d') _ n (λ ks. closes_to d t ks p q ∙ ap (λ (x : ℕ). is_run_from is_unnamed x ks) z) h)
              | inr h ↦ (let low = h.0 in inr (omega (arith, z, low, o, y), n ∙ ap suc h.1))
            ]
    by false false p q each =
        let o = opened_is t ts false p in let z = closed_is t ts false q in
        let n = is (c + suc d) c false false (closing (c + suc d) c ts) p q (same c d) (omega arith) (omega arith) refl in
        elim (each c d) [
          | inl h ↦ inl (further (suc d) _ n (λ ks. passes_to d t ks p q) h)
          | inr h ↦ (let low = h.0 in inr (omega arith, n ∙ ap suc h.1))
        ]

-- a list with brackets that do not close
abbrev pub IsOpen : List Terminal → Type 0
IsOpen ts = closed ts < opened ts

round_opener : (x : Symbol) → is_open_round_symbol x ≡ true → is_opener_symbol x ≡ true
round_opener s.OpenRound h = refl
round_opener x h = absurd (false≢true h)

-- the bracket list that comes first
first_list : (e : Terminal) (ts : List Terminal) → begins_list ts ≡ true → ClosedEnd 0 e (take (closing 0 0 ts) ts) ⊎ (IsOpen ts × (closing 0 0 ts ≡ length ts))
unfolding is_opener
first_list e [] h = absurd (false≢true h)
first_list e (t ∷ ts) h =
    let p = round_opener t.symbol h in
    let none = open_not_closed t p in
    let n : closing 0 0 (t ∷ ts) ≡ suc (closing 1 0 ts) =
    (λ i. step_by (0 + one_if (p i) == 0 + one_if (none i)) (closing (0 + one_if (p i)) (0 + one_if (none i)) ts)) in
    let o = opened_is t ts true p in let z = closed_is t ts false none in
    elim (list_closes 0 0 t ts) [
      | inl h ↦ inl (subst (λ (x : ℕ). ClosedEnd 0 e (take x (t ∷ ts))) (sym n) (record { closed = opens_to 0 t (take (closing 1 0 ts) ts) p ∙ h.closed; loose = h.loose }))
      | inr h ↦ (let low = h.0 in inr (omega arith, n ∙ ap suc h.1))
    ]

-- ---- a list between names

-- it is closed, or stays open
abbrev pub Fine : Terminal → List Terminal → Type 0
Fine e ts = ClosedEnd 0 e ts ⊎ IsOpen ts

take_all : (ts : List Terminal) → take (length ts) ts ≡ ts
take_all [] = refl
take_all (t ∷ ts) = ap (λ (x : List Terminal). t ∷ x) (take_all ts)

whole_list : (e : Terminal) (ts : List Terminal) → is_list ts ≡ true → Fine e ts
unfolding is_list
whole_list e ts h =
    let both = and_parts (begins_list ts) (closing 0 0 ts == length ts) h in
    let all : closing 0 0 ts ≡ length ts = equal (closing 0 0 ts) (length ts) both.1 in
    elim (first_list e ts both.0) [
      | inl c ↦ inl (subst (λ (x : List Terminal). ClosedEnd 0 e x) (ap (λ (x : ℕ). take x ts) all ∙ take_all ts) c)
      | inr o ↦ inr o.0
    ]
  where
    equal : (a b : ℕ) → (a == b) ≡ true → a ≡ b
    equal a b h = grind (arith, nat_tests)

-- after a name
pub fine_after : (e t : Terminal) (ts : List Terminal) → (is_name t || is_dot t) ≡ true → Fine t ts → Fine e (t ∷ ts)
unfolding is_name is_dot is_opener is_closer
fine_after e t ts h (inl c) = inl (record { closed = named_to t ts h ∙ c.closed; loose = c.loose })
fine_after e t ts h (inr o) =
    let none = no_brackets t.symbol h in
    let p = opened_is t ts false none.0 in let q = closed_is t ts false none.1 in
    inr (omega arith)

-- ---- what a type is read of

pub record Shape (e : Terminal) (ts : List Terminal) (ty : ColType) : Type 0 where
  pub whole : ty.whole ≡ span_of ts
  pub inner : ty.inner ≡ span_of ts
  pub flat : ty.array ≡ false
  pub fine : is_replaced ty ≡ true → Fine e ts

dull : (e : Terminal) (kind : TyKind) (name : ℕ) (ts : List Terminal) (args : Option Span) (zone : Bool) → is_replaced (plain_of kind name (span_of ts) args zone) ≡ false → Shape e ts (plain_of kind name (span_of ts) args zone)
dull e kind name ts args zone h = record { whole = refl; inner = refl; flat = refl; fine = λ x. absurd (false≢true (sym h ∙ x)) }

-- arguments, or none of a kind that is replaced with arguments alone
argued : (e : Terminal) (kind : TyKind) (name : ℕ) (ts rest : List Terminal) → is_replaced (plain_of kind name (span_of ts) None false) ≡ false → (((f : Terminal) → Fine f rest) → Fine e ts) → Given (Shape e ts) (with_arguments kind name ts rest)
unfolding arguments
argued e kind name ts rest none more = by (is_empty rest) (is_list rest) refl
  where
    by : (a b : Bool) → is_list rest ≡ b → Given (Shape e ts) (option_and_then (λ args. Some (plain_of kind name (span_of ts) args false)) (cond a (Some None) (cond b (Some (Some (span_of rest))) None)))
    by true b h = dull e kind name ts None false none
    by false true h = record { whole = refl; inner = refl; flat = refl; fine = λ x. more (λ f. whole_list f rest h) }
    by false false h = tt

-- ---- the listed types

keyword_name : (w : Keyword) (n : ℕ) → (is_name (record { symbol = s.Keyword w; number = n }) || is_dot (record { symbol = s.Keyword w; number = n })) ≡ true
unfolding is_name
keyword_name w n = refl

a_keyword : (w : Keyword) (t : Terminal) → is_keyword w t ≡ true → (is_name t || is_dot t) ≡ true
unfolding is_keyword is_name
a_keyword w t h = by t.symbol h
  where
    by : (x : Symbol) → is_keyword_symbol w x ≡ true → (is_name_symbol x || is_dot t) ≡ true
    by (s.Keyword v) h = refl
    by x h = absurd (false≢true h)

abbrev word_at : Keyword → ℕ → Terminal
word_at w n = record { symbol = s.Keyword w; number = n }

-- a type that these arguments end, after its word
listed : (e : Terminal) (kind : TyKind) (w : Keyword) (n name : ℕ) (rest : List Terminal) → is_replaced (plain_of kind name (span_of (word_at w n ∷ rest)) None false) ≡ false →
    Given (Shape e (word_at w n ∷ rest)) (with_arguments kind name (word_at w n ∷ rest) rest)
listed e kind w n name rest none = argued e kind name (word_at w n ∷ rest) rest none (λ each. fine_after e (word_at w n) rest (keyword_name w n) (each (word_at w n)))

-- the same with VARYING
varying_fine : (e : Terminal) (rest : List Terminal) → ((f : Terminal) → Fine f (after_varying rest)) → Fine e rest
unfolding after_varying
varying_fine e [] each = each e
varying_fine e (t ∷ ts) each = by (is_keyword keyword.VARYING t) refl each
  where
    by : (b : Bool) → is_keyword keyword.VARYING t ≡ b → ((f : Terminal) → Fine f (cond b ts (t ∷ ts))) → Fine e (t ∷ ts)
    by true h each = fine_after e t ts (a_keyword keyword.VARYING t h) (each t)
    by false h each = each e

character_shape : (e : Terminal) (w : Keyword) (n : ℕ) (rest : List Terminal) → Given (Shape e (word_at w n ∷ rest)) (character_type (word_at w n ∷ rest) rest)
unfolding character_type
character_shape e w n rest = by (begins_with keyword.VARYING rest)
  where
    kinds : (b : Bool) → is_replaced (plain_of (cond b kind.Varchar kind.Character) n (span_of (word_at w n ∷ rest)) None false) ≡ false
    kinds true = refl
    kinds false = refl

    by : (b : Bool) → Given (Shape e (word_at w n ∷ rest)) (with_arguments (cond b kind.Varchar kind.Character) n (word_at w n ∷ rest) (after_varying rest))
    by b = argued e (cond b kind.Varchar kind.Character) n (word_at w n ∷ rest) (after_varying rest) (kinds b) (λ each. fine_after e (word_at w n) rest (keyword_name w n) (varying_fine (word_at w n) rest each))

bit_shape : (e : Terminal) (w : Keyword) (n : ℕ) (rest : List Terminal) → Given (Shape e (word_at w n ∷ rest)) (with_arguments kind.Bit n (word_at w n ∷ rest) (after_varying rest))
unfolding arguments
bit_shape e w n rest = by (is_empty (after_varying rest)) (is_list (after_varying rest))
  where
    by : (a b : Bool) → Given (Shape e (word_at w n ∷ rest)) (option_and_then (λ args. Some (plain_of kind.Bit n (span_of (word_at w n ∷ rest)) args false)) (cond a (Some None) (cond b (Some (Some (span_of (after_varying rest)))) None)))
    by true b = dull e kind.Bit n (word_at w n ∷ rest) None false refl
    by false true = dull e kind.Bit n (word_at w n ∷ rest) (Some (span_of (after_varying rest))) false refl
    by false false = tt

double_shape : (e : Terminal) (w : Keyword) (n : ℕ) (rest : List Terminal) → Given (Shape e (word_at w n ∷ rest)) (double_type (word_at w n ∷ rest) rest)
unfolding double_type
double_shape e w n rest = by (begins_with keyword.PRECISION rest && length rest == 1)
  where
    by : (b : Bool) → Given (Shape e (word_at w n ∷ rest)) (cond b (Some (plain_of kind.Double n (span_of (word_at w n ∷ rest)) None false)) None)
    by true = dull e kind.Double n (word_at w n ∷ rest) None false refl
    by false = tt

-- ---- times

dull_time : (e : Terminal) (w : Keyword) (n : ℕ) (rest : List Terminal) → Given (Shape e (word_at w n ∷ rest)) (time_type kind.Time (word_at w n ∷ rest) rest)
unfolding time_type
dull_time e w n rest = given_any (Shape e (word_at w n ∷ rest)) _ (zone (drop (list_len rest) rest)) (λ z. dull e kind.Time n (word_at w n ∷ rest) (maybe_span (take (list_len rest) rest)) z refl)

zone_word : (w : Keyword) → same_keyword w keyword.ZONE ≡ true → (same_keyword w keyword.SET ≡ false) × (same_keyword w keyword.BY ≡ false)
unfolding same_keyword
zone_word (k.Verb verbs.Set) h = absurd (false≢true h)
zone_word (k.Object objects.Table) h = absurd (false≢true h)
zone_word (k.Other others.Zone) h = (refl, refl)
zone_word w h = absurd (false≢true h)

zone_symbol : (x : Symbol) → is_keyword_symbol keyword.ZONE x ≡ true → (is_keyword_symbol keyword.SET x ≡ false) × (is_keyword_symbol keyword.BY x ≡ false)
zone_symbol (s.Keyword w) h = zone_word w h
zone_symbol x h = absurd (false≢true h)

zone_loose : (t : Terminal) → is_keyword keyword.ZONE t ≡ true → IsLoose t
unfolding is_keyword
zone_loose t h = let p = zone_symbol t.symbol h in record { set = p.0; by = p.1 }

time_loose : (n : ℕ) → IsLoose (word_at (k.Other others.Timestamp) n)
unfolding is_keyword same_keyword
time_loose n = record { set = refl; by = refl }

-- a name before such a list
end_after : (e t : Terminal) (ts : List Terminal) → (is_name t || is_dot t) ≡ true → ClosedEnd 0 t ts → ClosedEnd 0 e (t ∷ ts)
end_after e t ts h c = record { closed = named_to t ts h ∙ c.closed; loose = c.loose }

time_zone : (e : Terminal) (ts : List Terminal) → is_time_zone ts ≡ true → ClosedEnd 0 e ts
time_zone e [] h = absurd (false≢true h)
time_zone e (t ∷ ts) h = by ts (is_keyword keyword.TIME t) (begins_with keyword.ZONE ts) (length ts == 1) refl refl refl h
  where
    zone_end : (ts : List Terminal) → begins_with keyword.ZONE ts ≡ true → (length ts == 1) ≡ true → ClosedEnd 0 t ts
    zone_end [] p q = absurd (false≢true p)
    zone_end (u ∷ []) p q = record { closed = named_to u [] (a_keyword keyword.ZONE u p); loose = zone_loose u p }
    zone_end (u ∷ v ∷ us) p q = absurd (false≢true (sym (long (length us)) ∙ q))
      where
        long : (n : ℕ) → (suc (suc n) == 1) ≡ false
        long n = grind (arith, nat_tests)

    by : (ts : List Terminal) (a b c : Bool) → is_keyword keyword.TIME t ≡ a → begins_with keyword.ZONE ts ≡ b → (length ts == 1) ≡ c → (a && b && c) ≡ true → ClosedEnd 0 e (t ∷ ts)
    by ts true true true p q r h = end_after e t ts (a_keyword keyword.TIME t p) (zone_end ts q r)
    by ts true true false p q r h = cc
    by ts true false c p q r h = cc
    by ts false b c p q r h = cc

-- WITH or WITHOUT TIME ZONE, or nothing
zone_fine : (e : Terminal) → IsLoose e → (ts : List Terminal) → Given (λ (z : Bool). ClosedEnd 0 e ts) (zone ts)
unfolding zone
zone_fine e l [] = record { closed = refl; loose = l }
zone_fine e l (t ∷ ts) = by (is_time_zone ts) (is_keyword keyword.WITH t) (is_keyword keyword.WITHOUT t) refl refl refl
  where
    by : (a b c : Bool) → is_time_zone ts ≡ a → is_keyword keyword.WITH t ≡ b → is_keyword keyword.WITHOUT t ≡ c → Given (λ (z : Bool). ClosedEnd 0 e (t ∷ ts)) (cond a (cond b (Some true) (cond c (Some false) None)) None)
    by false b c p q r = tt
    by true true c p q r = end_after e t ts (a_keyword keyword.WITH t q) (time_zone t ts p)
    by true false true p q r = end_after e t ts (a_keyword keyword.WITHOUT t r) (time_zone t ts p)
    by true false false p q r = tt

take_drop : (n : ℕ) (ts : List Terminal) → take n ts ++ drop n ts ≡ ts
take_drop zero ts = refl
take_drop (suc n) [] = refl
take_drop (suc n) (t ∷ ts) = ap (λ (x : List Terminal). t ∷ x) (take_drop n ts)

pub last_append : (e : Terminal) (xs ys : List Terminal) → last_or e (xs ++ ys) ≡ last_or (last_or e xs) ys
last_append e [] ys = refl
last_append e (x ∷ xs) ys = last_append x xs ys

end_append : (e : Terminal) (xs ys : List Terminal) → ClosedEnd 0 e xs → ClosedEnd 0 (last_or e xs) ys → ClosedEnd 0 e (xs ++ ys)
end_append e xs ys h g = record { closed = run_join is_unnamed 0 xs ys h.closed g.closed; loose = subst IsLoose (sym (last_append e xs ys)) g.loose }

-- TIMESTAMP
timestamp_fine : (n : ℕ) (rest : List Terminal) → Given (λ (z : Bool). Fine (word_at (k.Other others.Timestamp) n) rest) (zone (drop (list_len rest) rest))
unfolding list_len
timestamp_fine n rest = by (begins_list rest) refl
  where
    w : Terminal
    w = word_at (k.Other others.Timestamp) n

    more : (o : Option Bool) → Given (λ (z : Bool). ClosedEnd 0 w rest) o → Given (λ (z : Bool). Fine w rest) o
    more None g = tt
    more (Some z) g = inl g

    joins : (o : Option Bool) → ClosedEnd 0 w (take (closing 0 0 rest) rest) → Given (λ (z : Bool). ClosedEnd 0 (last_or w (take (closing 0 0 rest) rest)) (drop (closing 0 0 rest) rest)) o → Given (λ (z : Bool). Fine w rest) o
    joins None c g = tt
    joins (Some z) c g = inl (subst (λ (x : List Terminal). ClosedEnd 0 w x) (take_drop (closing 0 0 rest) rest) (end_append w (take (closing 0 0 rest) rest) (drop (closing 0 0 rest) rest) c g))

    stays_open : (o : Option Bool) → IsOpen rest → Given (λ (z : Bool). Fine w rest) o
    stays_open None h = tt
    stays_open (Some z) h = inr h

    by : (b : Bool) → begins_list rest ≡ b → Given (λ (z : Bool). Fine w rest) (zone (drop (cond b (closing 0 0 rest) 0) rest))
    by false h = more (zone rest) (zone_fine w (time_loose n) rest)
    by true h = elim (first_list w rest h) [
      | inl c ↦ joins (zone (drop (closing 0 0 rest) rest)) c (zone_fine (last_or w (take (closing 0 0 rest) rest)) c.loose (drop (closing 0 0 rest) rest))
      | inr o ↦ stays_open (zone (drop (closing 0 0 rest) rest)) o.0
    ]

timestamp_shape : (e : Terminal) (n : ℕ) (rest : List Terminal) → Given (Shape e (word_at (k.Other others.Timestamp) n ∷ rest)) (time_type kind.Timestamp (word_at (k.Other others.Timestamp) n ∷ rest) rest)
unfolding time_type
timestamp_shape e n rest =
    given_then (λ (z : Bool). Fine (word_at (k.Other others.Timestamp) n) rest) (Shape e (word_at (k.Other others.Timestamp) n ∷ rest)) _ (zone (drop (list_len rest) rest)) (timestamp_fine n rest)
    (λ z h. record { whole = refl; inner = refl; flat = refl; fine = λ x. fine_after e (word_at (k.Other others.Timestamp) n) rest (keyword_name (k.Other others.Timestamp) n) h })

-- ---- paths

a_name : (t : Terminal) → is_name t ≡ true → (is_name t || is_dot t) ≡ true
a_name t h = ap (λ (b : Bool). b || is_dot t) h

a_dot : (t : Terminal) → is_dot t ≡ true → (is_name t || is_dot t) ≡ true
a_dot t h = by (is_name t) (is_dot t) h
  where
    by : (a b : Bool) → b ≡ true → (a || b) ≡ true
    by true b h = refl
    by false b h = h

names_fine : (f : Terminal) (n : ℕ) (ts : List Terminal) → ((g : Terminal) → Fine g (names_end n ts).1) → Fine f ts
names_fine f n [] each = each f
names_fine f n (d ∷ []) each = each f
names_fine f n (d ∷ u ∷ ts) each = by (is_dot d) (is_name u) refl refl each (λ g. names_fine u u.number ts g)
  where
    by : (a b : Bool) → is_dot d ≡ a → is_name u ≡ b → ((g : Terminal) → Fine g (cond (a && b) (names_end u.number ts) (n, d ∷ u ∷ ts)).1) → (((g : Terminal) → Fine g (names_end u.number ts).1) → Fine u ts) → Fine f (d ∷ u ∷ ts)
    by true true p q each more = fine_after f d (u ∷ ts) (a_dot d p) (fine_after d u ts (a_name u q) (more each))
    by true false p q each more = each f
    by false b p q each more = each f

path_shape : (e t : Terminal) (ts : List Terminal) → Given (Shape e (t ∷ ts)) (path_type (t ∷ ts))
unfolding path_type path_first
path_shape e t ts = by (is_name t) refl
  where
    by : (b : Bool) → is_name t ≡ b → Given (Shape e (t ∷ ts)) (option_and_then (λ (r : Span × List Terminal). with_arguments kind.Path r.0.last (t ∷ ts) r.1) (cond b (Some (record { first = t.number; last = (names_end t.number ts).0 }, (names_end t.number ts).1)) None))
    by false h = tt
    by true h = argued e kind.Path (names_end t.number ts).0 (t ∷ ts) (names_end t.number ts).1 refl (λ each. fine_after e t ts (a_name t h) (names_fine t t.number ts each))

-- ---- types

word_shape : (e : Terminal) (w : Keyword) (n : ℕ) (rest : List Terminal) → Given (Shape e (word_at w n ∷ rest)) (word_type w (word_at w n ∷ rest) rest)
unfolding word_type
word_shape e (k.Other others.Varchar) n rest = listed e kind.Varchar (k.Other others.Varchar) n n rest refl
word_shape e (k.Other others.Character) n rest = character_shape e (k.Other others.Character) n rest
word_shape e (k.Other others.Char) n rest = character_shape e (k.Other others.Char) n rest
word_shape e (k.Other others.Bit) n rest = bit_shape e (k.Other others.Bit) n rest
word_shape e (k.Other others.Double) n rest = double_shape e (k.Other others.Double) n rest
word_shape e (k.Other others.Time) n rest = dull_time e (k.Other others.Time) n rest
word_shape e (k.Other others.Timestamp) n rest = timestamp_shape e n rest
word_shape e (k.Other others.Interval) n rest = dull e kind.Interval n (word_at (k.Other others.Interval) n ∷ rest) None false refl
word_shape e w n rest = tt

symbol_shape : (e : Terminal) (x : Symbol) (n : ℕ) (rest : List Terminal) → Given (Shape e (record { symbol = x; number = n } ∷ rest)) (symbol_type x (record { symbol = x; number = n } ∷ rest) rest)
symbol_shape e (s.Keyword w) n rest = word_shape e w n rest
symbol_shape e x n rest = tt

pub plain_shape : (e : Terminal) (ts : List Terminal) → Given (Shape e ts) (plain_type ts)
unfolding plain_type
plain_shape e [] = tt
plain_shape e (t ∷ ts) = either (symbol_type t.symbol (t ∷ ts) ts) (path_type (t ∷ ts)) (symbol_shape e t.symbol t.number ts) (path_shape e t ts)
  where
    either : (a b : Option ColType) → Given (Shape e (t ∷ ts)) a → Given (Shape e (t ∷ ts)) b → Given (Shape e (t ∷ ts)) (either_of a b)
    either None b g h = h
    either (Some a) b g h = g
