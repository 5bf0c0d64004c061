-- Where words after INITIALLY are kept.
use Rattle.std.proofs.Common.{◌≡◌, subst, sym, ℕ, ◌+◌, ◌==◌, Bool, true, false, ◌&&◌, cond, List, [], ◌∷◌, map, refl, ap, zero, suc, take, length, ◌-◌, Option, Some, None}
use Rattle.std.specs.Prelude.{if◌then◌else◌, ◌||◌}
use Rattle.std.specs.List.{All}
use Rattle.std.proofs.lemmas.List.Elements.{All-nil, All-cons, All-head, All-tail, All-weaker}
use Rattle.sql_tree.specs.sql_keyword.declared.words.TheConstants.Keyword as keyword
use Rattle.sql_token.specs.declared.terminal.Terminal.{Terminal}
use Rattle.sql_token.specs.Terminal.{is_keyword, is_opener, is_closer, is_semicolon}
use Rattle.sql_token.specs.Depth.{one_if, onto, statements_from}
use Rattle.sql_token.proofs.Statements.{by_counts}
use Rattle.sql_tree.specs.declared.actions.PieceList.{PieceList}
use Rattle.sql_tree.specs.declared.actions.PieceList.TheVariants as lists
use Rattle.sql_tree.specs.declared.forms.BodyShape.{BodyShape}
use Rattle.sql_tree.specs.declared.forms.BodyShape.TheVariants as shape
use Rattle.sql_tree.specs.declared.kinds.StmtKind.{StmtKind}
use Rattle.sql_tree.specs.Forms.{State}
use Rattle.sql_tree.specs.Split.{Test, comma, split, split_from}
use Rattle.sql_tree.specs.ActionPieces.{is_pair, begins_pair}
use Rattle.sql_tree.specs.Action.{has_several}
use Rattle.sql_tree.specs.Statement.{body_shape_of, front_by, from_verb, last_of, without_semicolon}
use Rattle.law_renumber.specs.Options.{StaysWord, OptionsKept, ListKept, ActionKept, ActionsKept, LeftKept, FrontKept, StatementKept, StatementKeptByAll, StatementsKeptByAll, OptionsKeptByWords}
use Rattle.law_renumber.proofs.Seen.{Change, changed, keyword_sees}
use Rattle.law_renumber.proofs.There.{IfThere}
use Rattle.law_renumber.proofs.Left.{front_left, verb_left}

-- ---- pairs

second_by : (a x y : Bool) → (a ≡ true → x ≡ y) → (a && x) ≡ (a && y)
second_by true x y h = h refl
second_by false x y h = refl

pub pair_sees : (f : Change) (t u : Terminal) → (is_keyword keyword.INITIALLY t ≡ true → StaysWord (changed f) u) → is_pair (changed f t) (changed f u) ≡ is_pair t u
unfolding is_pair
pair_sees f t u h =
    rw (keyword_sees f keyword.NOT t, keyword_sees f keyword.ENFORCED u, keyword_sees f keyword.DEFERRABLE u, keyword_sees f keyword.INITIALLY t)
    (ap (λ (x : Bool). (is_keyword keyword.NOT t && (is_keyword keyword.ENFORCED u || is_keyword keyword.DEFERRABLE u)) || x) (second_by _ _ _ h))

pub begins_pair_sees : (f : Change) (ts : List Terminal) → OptionsKept (changed f) ts → begins_pair (map (changed f) ts) ≡ begins_pair ts
begins_pair_sees f [] h = refl
begins_pair_sees f (t ∷ []) h = refl
begins_pair_sees f (t ∷ u ∷ ts) h = pair_sees f t u h.0

-- ---- ends of lists

pub kept_tail : (g : Terminal → Terminal) (t : Terminal) (ts : List Terminal) → OptionsKept g (t ∷ ts) → OptionsKept g ts
kept_tail g t [] h = tt
kept_tail g t (u ∷ ts) h = h.1

pub list_tail : (g : Terminal → Terminal) (list : PieceList) (t : Terminal) (ts : List Terminal) → ListKept g list (t ∷ ts) → ListKept g list ts
list_tail g lists.ConstraintOptions t ts h = kept_tail g t ts h
list_tail g _ t ts h = tt

pub by_words : (g : Terminal → Terminal) → OptionsKeptByWords g
by_words g stays [] = tt
by_words g stays (t ∷ []) = tt
by_words g stays (t ∷ u ∷ ts) = (λ is. stays u, by_words g stays (u ∷ ts))

-- ---- a whole statement

taken : (g : Terminal → Terminal) (n : ℕ) (ts : List Terminal) → OptionsKept g ts → OptionsKept g (take n ts)
taken g zero ts h = tt
taken g (suc n) [] h = tt
taken g (suc n) (t ∷ []) h = taken_one n
  where
    taken_one : (n : ℕ) → OptionsKept g (t ∷ take n [])
    taken_one zero = tt
    taken_one (suc n) = tt
taken g (suc zero) (t ∷ u ∷ ts) h = tt
taken g (suc (suc n)) (t ∷ u ∷ ts) h = (h.0, taken g (suc n) (u ∷ ts) h.1)

unended_by : (g : Terminal → Terminal) (b : Bool) (n : ℕ) (ts : List Terminal) → OptionsKept g ts → OptionsKept g (if b then take n ts else ts)
unended_by g true n ts h = taken g n ts h
unended_by g false n ts h = h

onto_kept : (g : Terminal → Terminal) (t u : Terminal) (parts : List (List Terminal)) → (is_keyword keyword.INITIALLY t ≡ true → StaysWord g u) →
    All (OptionsKept g) (onto u parts) → All (OptionsKept g) (onto t (onto u parts))
onto_kept g t u [] h k = All-cons (OptionsKept g) (t ∷ u ∷ []) [] (h, tt) (All-nil (OptionsKept g))
onto_kept g t u (p ∷ ps) h k = All-cons (OptionsKept g) (t ∷ u ∷ p) ps (h, All-head (OptionsKept g) (u ∷ p) ps k) (All-tail (OptionsKept g) (u ∷ p) ps k)

cut_by : (g : Terminal → Terminal) (b : Bool) (t : Terminal) (cut parts : List (List Terminal)) → All (OptionsKept g) cut → All (OptionsKept g) (onto t parts) →
    All (OptionsKept g) (cond b ([] ∷ cut) (onto t parts))
cut_by g true t cut parts h k = All-cons (OptionsKept g) [] cut tt h
cut_by g false t cut parts h k = k

first_by : (g : Terminal → Terminal) (b : Bool) (t u : Terminal) (cut parts : List (List Terminal)) → (is_keyword keyword.INITIALLY t ≡ true → StaysWord g u) →
    All (OptionsKept g) cut → All (OptionsKept g) (onto u parts) → All (OptionsKept g) (onto t (cond b ([] ∷ cut) (onto u parts)))
first_by g true t u cut parts is h k = All-cons (OptionsKept g) (t ∷ []) cut tt h
first_by g false t u cut parts is h k = onto_kept g t u parts is k

mutual
  parts_kept : (g : Terminal → Terminal) (mark : Test) (e : Option Terminal) (o c : ℕ) (ts : List Terminal) → OptionsKept g ts → All (OptionsKept g) (split_from mark e o c ts)
  parts_kept g mark e o c [] h = All-cons (OptionsKept g) [] [] tt (All-nil (OptionsKept g))
  parts_kept g mark e o c (t ∷ ts) h =
      cut_by g (o == c && mark e t ts) t _ _ (parts_kept g mark (Some t) 0 0 ts (kept_tail g t ts h))
      (after_kept g mark (Some t) (o + one_if (is_opener t)) (c + one_if (is_closer t)) t ts h)

  after_kept : (g : Terminal → Terminal) (mark : Test) (e : Option Terminal) (o c : ℕ) (t : Terminal) (ts : List Terminal) → OptionsKept g (t ∷ ts) → All (OptionsKept g) (onto t (split_from mark e o c ts))
  after_kept g mark e o c t [] h = All-cons (OptionsKept g) (t ∷ []) [] tt (All-nil (OptionsKept g))
  after_kept g mark e o c t (u ∷ ts) h =
      first_by g (o == c && mark e u ts) t u _ _ h.0 (parts_kept g mark (Some u) 0 0 ts (kept_tail g u ts h.1))
      (after_kept g mark (Some u) (o + one_if (is_opener u)) (c + one_if (is_closer u)) u ts h.1)

lists_by : (g : Terminal → Terminal) (b : Bool) (tail : List Terminal) → OptionsKept g tail → All (OptionsKept g) (if b then split comma tail else tail ∷ [])
unfolding split
lists_by g true tail h = parts_kept g comma None 0 0 tail h
lists_by g false tail h = All-cons (OptionsKept g) tail [] h (All-nil (OptionsKept g))

actions_kept : (g : Terminal → Terminal) (kind : StmtKind) (tail : List Terminal) → OptionsKept g tail → ActionsKept g kind tail
actions_kept g kind tail h = All-weaker (OptionsKept g) (ActionKept g) (λ ts k is. k) (if has_several kind then split comma tail else tail ∷ []) (lists_by g (has_several kind) tail h)

left_kept : (g : Terminal → Terminal) (x : BodyShape) (front : StmtKind × State) → OptionsKept g front.1.left → LeftKept g x front
left_kept g shape.Alter front h = actions_kept g front.0 front.1.left h
left_kept g _ front h = tt

there_at : {X : Type 0} (P : X → Type 0) (o : Option X) (x : X) → IfThere P o → o ≡ Some x → P x
there_at P o x h e = subst (IfThere P) e h

front_kept : (g : Terminal → Terminal) (ts : List Terminal) → OptionsKept g ts → FrontKept g ts
front_kept g [] h = tt
front_kept g (t ∷ ts) h = λ front is.
    left_kept g (body_shape_of front.0) front
    (there_at (λ (r : StmtKind × State). OptionsKept g r.1.left) (front_by t.symbol ts) front (front_left (OptionsKept g) (kept_tail g) t.symbol ts (kept_tail g t ts h)) is)

pub by_all : (g : Terminal → Terminal) → StatementKeptByAll g
by_all g ts h =
    let whole : OptionsKept g (without_semicolon ts) = unended_by g (is_semicolon (last_of ts)) (length ts - 1) ts h in
    front_kept g (from_verb (without_semicolon ts)) (verb_left (OptionsKept g) (kept_tail g) (without_semicolon ts) whole)

-- ---- the statements of a text

ended_by : (g : Terminal → Terminal) (b : Bool) (t : Terminal) (cut parts : List (List Terminal)) → All (OptionsKept g) cut → All (OptionsKept g) (onto t parts) →
    All (OptionsKept g) (cond b ((t ∷ []) ∷ cut) (onto t parts))
ended_by g true t cut parts h k = All-cons (OptionsKept g) (t ∷ []) cut tt h
ended_by g false t cut parts h k = k

first_ended : (g : Terminal → Terminal) (b : Bool) (t u : Terminal) (cut parts : List (List Terminal)) → (is_keyword keyword.INITIALLY t ≡ true → StaysWord g u) →
    All (OptionsKept g) cut → All (OptionsKept g) (onto u parts) → All (OptionsKept g) (onto t (cond b ((u ∷ []) ∷ cut) (onto u parts)))
first_ended g true t u cut parts is h k = All-cons (OptionsKept g) (t ∷ u ∷ []) cut (is, tt) h
first_ended g false t u cut parts is h k = onto_kept g t u parts is k

mutual
  cut_kept : (g : Terminal → Terminal) (o c : ℕ) (ts : List Terminal) → OptionsKept g ts → All (OptionsKept g) (statements_from o c ts)
  cut_kept g o c [] h = All-nil (OptionsKept g)
  cut_kept g o c (t ∷ ts) h =
      ended_by g (o == c && is_semicolon t) t _ _ (cut_kept g 0 0 ts (kept_tail g t ts h))
      (after_cut_kept g (o + one_if (is_opener t)) (c + one_if (is_closer t)) t ts h)

  after_cut_kept : (g : Terminal → Terminal) (o c : ℕ) (t : Terminal) (ts : List Terminal) → OptionsKept g (t ∷ ts) → All (OptionsKept g) (onto t (statements_from o c ts))
  after_cut_kept g o c t [] h = All-cons (OptionsKept g) (t ∷ []) [] tt (All-nil (OptionsKept g))
  after_cut_kept g o c t (u ∷ ts) h =
      first_ended g (o == c && is_semicolon u) t u _ _ h.0 (cut_kept g 0 0 ts (kept_tail g u ts h.1))
      (after_cut_kept g (o + one_if (is_opener u)) (c + one_if (is_closer u)) u ts h.1)

pub text_by_all : (g : Terminal → Terminal) → StatementsKeptByAll g
text_by_all g ts h =
    subst (All (StatementKept g)) (sym (by_counts ts))
    (All-weaker (OptionsKept g) (StatementKept g) (by_all g) (statements_from 0 0 ts) (cut_kept g 0 0 ts h))
