-- The nearest of one name, and of one name more.
use Rattle.std.proofs.Common.{◌≡◌, ◌<◌, ◌≤◌, ◌+◌, ◌++◌, ℕ, List, [], ◌∷◌, length, take, get_or, refl, arith, rules, sym, ◌∙◌, subst, ap}
use Rattle.std.specs.List.{All}
use Rattle.std.proofs.lemmas.List.{append_assoc, take_more}
use Rattle.std.proofs.lemmas.List.Elements.{All-nil, All-cons, All-append, All-push, All-weaker}
use Rattle.lint_report.specs.declared.code.Code.{Code}
use Rattle.lint_base.specs.Rules.{all_rules}
use Rattle.nearest_code.specs.Nearest.{IsNearestOf, all_codes, edits}

pub one_is_nearest : (text : List ℕ) (r : Code) → IsNearestOf (r ∷ []) text r
one_is_nearest text r = record {
  before = [];
  after = [];
  split = refl;
  farther = All-nil (λ q. edits text r < edits text q);
  not_nearer = All-nil (λ q. edits text r ≤ edits text q);
}

-- a name that is not nearer changes nothing
pub stays_nearest : (codes : List Code) (text : List ℕ) (r q : Code) → IsNearestOf codes text r → edits text r ≤ edits text q → IsNearestOf (codes ++ q ∷ []) text r
stays_nearest codes text r q h le = record {
  before = h.before;
  after = h.after ++ q ∷ [];
  split = ap (λ rs. rs ++ q ∷ []) h.split ∙ append_assoc h.before (r ∷ h.after) (q ∷ []);
  farther = h.farther;
  not_nearer = All-push (λ p. edits text r ≤ edits text p) h.after q h.not_nearer le;
}

-- all are farther than what is nearer than the nearest
all_farther : (codes : List Code) (text : List ℕ) (r q : Code) → IsNearestOf codes text r → edits text q < edits text r → All (λ p. edits text q < edits text p) codes
all_farther codes text r q h lt =
    let P : Code → Type 0 = λ p. edits text q < edits text p in
    let front : All P h.before = All-weaker (λ p. edits text r < edits text p) P (λ p below. omega (arith, lt, below)) h.before h.farther in
    let back : All P h.after = All-weaker (λ p. edits text r ≤ edits text p) P (λ p below. omega (arith, lt, below)) h.after h.not_nearer in
    let joined : All P (h.before ++ (r ∷ h.after)) = All-append P h.before (r ∷ h.after) front (All-cons P r h.after lt back) in
    subst (λ (rs : List Code). All P rs) (sym h.split) joined

-- a name that is nearer is the nearest
pub becomes_nearest : (codes : List Code) (text : List ℕ) (r q : Code) → IsNearestOf codes text r → edits text q < edits text r → IsNearestOf (codes ++ q ∷ []) text q
becomes_nearest codes text r q h lt = record {
  before = codes;
  after = [];
  split = refl;
  farther = all_farther codes text r q h lt;
  not_nearer = All-nil (λ p. edits text q ≤ edits text p);
}

-- ---- the first of a list, and one more of it

pub first_is_nearest : (codes : List Code) (text : List ℕ) (d : Code) → 0 < length codes → IsNearestOf (take 1 codes) text (get_or codes 0 d)
first_is_nearest [] text d some = absurd (omega arith)
first_is_nearest (r ∷ codes) text d some = one_is_nearest text r

pub same_step : (codes : List Code) (text : List ℕ) (i : ℕ) (d r : Code) (n m : ℕ) → i < length codes → IsNearestOf (take i codes) text r → n ≡ edits text r → m ≡ edits text (get_or codes i d) → n ≤ m → IsNearestOf (take (i + 1) codes) text r
same_step codes text i d r n m within h old new le =
    let P : List Code → Type 0 = λ rs. IsNearestOf rs text r in
    subst P (sym (take_more codes i d within)) (stays_nearest (take i codes) text r (get_or codes i d) h (omega arith))

pub nearer_step : (codes : List Code) (text : List ℕ) (i : ℕ) (d r : Code) (n m : ℕ) → i < length codes → IsNearestOf (take i codes) text r → n ≡ edits text r → m ≡ edits text (get_or codes i d) → m < n → IsNearestOf (take (i + 1) codes) text (get_or codes i d)
nearer_step codes text i d r n m within h old new lt =
    let P : List Code → Type 0 = λ rs. IsNearestOf rs text (get_or codes i d) in
    subst P (sym (take_more codes i d within)) (becomes_nearest (take i codes) text r (get_or codes i d) h (omega arith))

-- there are some
pub some_codes : 0 < length all_codes
unfolding all_codes all_rules
some_codes = search rules
