-- A list of texts has at most one verdict.
use Rattle.std.proofs.Common.{◌≡◌, ◌∙◌, sym, ap, refl, ℕ, zero, suc, List, [], ◌∷◌, take, drop, Option, Some, None, Ok, Err, subst}
use Rattle.squawk_linter.specs.sql_token.Token.{Text, OpenAt}
use Rattle.squawk_linter.proofs.of_sql_token.TokenLaws as token
use Rattle.squawk_linter.specs.sql_tree.Statement.{Tree}
use Rattle.squawk_linter.proofs.of_sql_tree.TreeLaws.{one_tree, one_fault, not_both}
use Rattle.squawk_linter.specs.sql_read.Cause.{IsTreeOf}
use Rattle.migration_gate.specs.declared.verdict.Why.{Why}
use Rattle.migration_gate.specs.declared.verdict.Why.TheVariants as why
use Rattle.squawk_linter.specs.lint_base.declared.settings.LinterSettings.{LinterSettings}
use Rattle.squawk_linter.specs.lint_base.RuleSets.{Rules}
use Rattle.migration_gate.specs.Passing.{IsAgainst, IsPassing, IsWhy, why_in}
use Rattle.migration_gate.specs.Verdicts.{ArePassing, IsRejected}
use Rattle.migration_gate.specs.Laws.{OneVerdict}
use Rattle.migration_gate.specs.Run.{catalogue}
use Rattle.migration_gate.proofs.Lists.{nothing_against, tree_of}

-- ---- one file

not_open : (t : Text) (tree : Tree) (at : ℕ) → IsTreeOf t tree → OpenAt t at → ⊥
not_open t tree at is opens = token.not_both tree.text tree.toks at is.1.lexed (subst (λ u. OpenAt u at) (sym is.0) opens)

same_tree : (t : Text) (a b : Tree) → IsTreeOf t a → IsTreeOf t b → a ≡ b
same_tree t a b p q = one_tree a b (p.0 ∙ sym q.0) p.1 q.1

some_eq : {X : Type 0} (x y : X) (o p : Option X) → o ≡ p → o ≡ Some x → p ≡ Some y → x ≡ y
some_eq x y o p e f g = cc

none_some : {X : Type 0} (y : X) (o p : Option X) → o ≡ p → o ≡ None → p ≡ Some y → ⊥
none_some y o p e f g = cc

against_one : (rules : Rules) (settings : LinterSettings) (t : Text) (w v : Why) → IsAgainst rules settings t w → IsAgainst rules settings t v → w ≡ v
against_one rules settings t w v h g = some_eq w v (why_in rules settings h.tree) (why_in rules settings g.tree) (ap (why_in rules settings) (same_tree t h.tree g.tree h.of_text g.of_text)) h.told g.told

one_why : (rules : Rules) (settings : LinterSettings) (t : Text) (w v : Why) → IsWhy rules settings t w → IsWhy rules settings t v → w ≡ v
one_why rules settings t (why.Unterminated a) (why.Unterminated b) h g = ap why.Unterminated (token.one_open t a b h.1 g.1)
one_why rules settings t (why.Unterminated a) (why.Syntax b) h g = absurd (token.not_both t g.toks a g.lexed h.1)
one_why rules settings t (why.Unterminated a) v h g = absurd (not_open t g.tree a g.of_text h.1)
one_why rules settings t (why.Syntax a) (why.Unterminated b) h g = absurd (token.not_both t h.toks b h.lexed g.1)
one_why rules settings t (why.Syntax a) (why.Syntax b) h g = ap why.Syntax (one_fault t a b h g)
one_why rules settings t (why.Syntax a) v h g = absurd (not_both g.tree t a g.of_text.0 g.of_text.1 h)
one_why rules settings t w (why.Unterminated b) h g = absurd (not_open t h.tree b h.of_text g.1)
one_why rules settings t w (why.Syntax b) h g = absurd (not_both h.tree t b h.of_text.0 h.of_text.1 g)
one_why rules settings t w v h g = against_one rules settings t w v h g

not_against : (rules : Rules) (settings : LinterSettings) (t : Text) (tree : Tree) (w : Why) → IsPassing rules settings t tree → IsAgainst rules settings t w → ⊥
not_against rules settings t tree w h g = none_some w (why_in rules settings tree) (why_in rules settings g.tree) (ap (why_in rules settings) (same_tree t tree g.tree (tree_of rules settings t tree h) g.of_text)) (nothing_against rules settings t tree h) g.told

not_passing : (rules : Rules) (settings : LinterSettings) (t : Text) (tree : Tree) (w : Why) → IsPassing rules settings t tree → IsWhy rules settings t w → ⊥
not_passing rules settings t tree (why.Unterminated a) h g = not_open t tree a (tree_of rules settings t tree h) g.1
not_passing rules settings t tree (why.Syntax a) h g = not_both tree t a h.is h.valid.read g
not_passing rules settings t tree w h g = not_against rules settings t tree w h g

-- ---- lists of files

one_passing : (rules : Rules) (settings : LinterSettings) (ts : List Text) (a b : List Tree) → ArePassing rules settings ts a → ArePassing rules settings ts b → a ≡ b
one_passing rules settings [] [] [] h g = refl
one_passing rules settings [] [] (r ∷ rs) h g = absurd g
one_passing rules settings [] (q ∷ qs) b h g = absurd h
one_passing rules settings (t ∷ ts) [] b h g = absurd h
one_passing rules settings (t ∷ ts) (q ∷ qs) [] h g = absurd g
one_passing rules settings (t ∷ ts) (q ∷ qs) (r ∷ rs) h g = λ i. same_tree t q r (tree_of rules settings t q h.0) (tree_of rules settings t r g.0) i ∷ one_passing rules settings ts qs rs h.1 g.1 i

-- a file that does not pass, behind these
abbrev IsStop : Rules → LinterSettings → List Text → ℕ → Why → List Tree → Text → List Text → Type 0
IsStop rules settings ts f w trees x os = ArePassing rules settings (take f ts) trees × (drop f ts ≡ x ∷ os) × IsWhy rules settings x w

nothing_left : {X A : Type 0} (f : ℕ) (x : X) (os : List X) → drop f [] ≡ x ∷ os → A
nothing_left zero x os e = absurd cc
nothing_left (suc f) x os e = absurd cc

head_eq : {X : Type 0} (t x : X) (ts os : List X) → t ∷ ts ≡ x ∷ os → t ≡ x
head_eq t x ts os e = cc

not_stopped : (rules : Rules) (settings : LinterSettings) (ts : List Text) (f : ℕ) (w : Why) (trees all : List Tree) (x : Text) (os : List Text) → ArePassing rules settings ts all → IsStop rules settings ts f w trees x os → ⊥
not_stopped rules settings [] f w trees all x os h g = nothing_left f x os g.1
not_stopped rules settings (t ∷ ts) f w trees [] x os h g = h
not_stopped rules settings (t ∷ ts) zero w trees (r ∷ rs) x os h g =
    not_passing rules settings t r w h.0 (subst (λ u. IsWhy rules settings u w) (sym (head_eq t x ts os g.1)) g.2)
not_stopped rules settings (t ∷ ts) (suc f) w [] (r ∷ rs) x os h g = g.0
not_stopped rules settings (t ∷ ts) (suc f) w (q ∷ qs) (r ∷ rs) x os h g = not_stopped rules settings ts f w qs rs x os h.1 (g.0.1, g.1, g.2)

one_stop : (rules : Rules) (settings : LinterSettings) (ts : List Text) (f g : ℕ) (w v : Why) (a b : List Tree) (x y : Text) (os ps : List Text)
    → IsStop rules settings ts f w a x os → IsStop rules settings ts g v b y ps → (f ≡ g) × (w ≡ v)
one_stop rules settings [] f g w v a b x y os ps h k = nothing_left f x os h.1
one_stop rules settings (t ∷ ts) zero zero w v a b x y os ps h k =
    (refl, one_why rules settings t w v (subst (λ u. IsWhy rules settings u w) (sym (head_eq t x ts os h.1)) h.2) (subst (λ u. IsWhy rules settings u v) (sym (head_eq t y ts ps k.1)) k.2))
one_stop rules settings (t ∷ ts) zero (suc g) w v a [] x y os ps h k = absurd k.0
one_stop rules settings (t ∷ ts) zero (suc g) w v a (r ∷ rs) x y os ps h k =
    absurd (not_passing rules settings t r w k.0.0 (subst (λ u. IsWhy rules settings u w) (sym (head_eq t x ts os h.1)) h.2))
one_stop rules settings (t ∷ ts) (suc f) zero w v [] b x y os ps h k = absurd h.0
one_stop rules settings (t ∷ ts) (suc f) zero w v (q ∷ qs) b x y os ps h k =
    absurd (not_passing rules settings t q v h.0.0 (subst (λ u. IsWhy rules settings u v) (sym (head_eq t y ts ps k.1)) k.2))
one_stop rules settings (t ∷ ts) (suc f) (suc g) w v [] b x y os ps h k = absurd h.0
one_stop rules settings (t ∷ ts) (suc f) (suc g) w v (q ∷ qs) [] x y os ps h k = absurd k.0
one_stop rules settings (t ∷ ts) (suc f) (suc g) w v (q ∷ qs) (r ∷ rs) x y os ps h k =
    let rest = one_stop rules settings ts f g w v qs rs x y os ps (h.0.1, h.1, h.2) (k.0.1, k.1, k.2) in (ap suc rest.0, rest.1)

stop_of : (rules : Rules) (settings : LinterSettings) (ts : List Text) (f : ℕ) (w : Why) → (h : IsRejected rules settings ts f w) → IsStop rules settings ts f w h.trees h.text h.others
stop_of rules settings ts f w h = (h.passing, h.here, h.told)

pub one_verdict : OneVerdict
one_verdict rules settings ts (Ok a) (Ok b) h g =
    ap Ok (h.listed ∙ (ap (catalogue settings) (one_passing rules settings ts h.trees g.trees h.passing g.passing) ∙ sym g.listed))
one_verdict rules settings ts (Ok a) (Err y) h g = absurd (not_stopped rules settings ts y.0 y.1 g.trees h.trees g.text g.others h.passing (stop_of rules settings ts y.0 y.1 g))
one_verdict rules settings ts (Err x) (Ok b) h g = absurd (not_stopped rules settings ts x.0 x.1 h.trees g.trees h.text h.others g.passing (stop_of rules settings ts x.0 x.1 h))
one_verdict rules settings ts (Err x) (Err y) h g =
    let same = one_stop rules settings ts x.0 y.0 x.1 y.1 h.trees g.trees h.text g.text h.others g.others (stop_of rules settings ts x.0 x.1 h) (stop_of rules settings ts y.0 y.1 g) in
    λ i. Err (same.0 i, same.1 i)
