-- Terminals whose numbers ascend, and what reading keeps of that.
use Rattle.std.proofs.Common.{ℕ, suc, ◌≤◌, List, [], ◌∷◌, ◌++◌, drop, arith}
use Rattle.sql_tree.specs.sql_keyword.declared.words.Keyword.{Keyword}
use Rattle.sql_token.specs.declared.terminal.Symbol.{Symbol}
use Rattle.sql_token.specs.declared.terminal.Terminal.{Terminal}
use Rattle.sql_tree.specs.declared.forms.Part.{Part}
use Rattle.sql_tree.specs.Forms.{State, after_word, first_whole}
use Rattle.sql_tree.specs.Statement.{front_by, from_verb}
use Rattle.law_renumber.proofs.There.{IfThere}
use Rattle.law_renumber.proofs.Left as left

-- ---- numbers that ascend

-- the numbers ascend from lo on, and are below hi
abbrev pub Up : ℕ → List ℕ → ℕ → Type 0
Up lo [] hi = lo ≤ hi
Up lo (n ∷ ns) hi = (lo ≤ n) × Up (suc n) ns hi

pub up_le : (lo : ℕ) (ns : List ℕ) (hi : ℕ) → Up lo ns hi → lo ≤ hi
up_le lo [] hi h = h
up_le lo (n ∷ ns) hi h = let rest = up_le (suc n) ns hi h.1 in omega (arith, h.0, rest)

pub up_lower : (low lo : ℕ) (ns : List ℕ) (hi : ℕ) → low ≤ lo → Up lo ns hi → Up low ns hi
up_lower low lo [] hi le h = omega (arith, le, h)
up_lower low lo (n ∷ ns) hi le h = (omega (arith, le, h.0), h.1)

pub up_raise : (lo : ℕ) (ns : List ℕ) (hi high : ℕ) → hi ≤ high → Up lo ns hi → Up lo ns high
up_raise lo [] hi high le h = omega (arith, le, h)
up_raise lo (n ∷ ns) hi high le h = (h.0, up_raise (suc n) ns hi high le h.1)

pub up-append : (lo : ℕ) (xs : List ℕ) (mid : ℕ) (ys : List ℕ) (hi : ℕ) → Up lo xs mid → Up mid ys hi → Up lo (xs ++ ys) hi
up-append lo [] mid ys hi h k = up_lower lo mid ys hi h k
up-append lo (x ∷ xs) mid ys hi h k = (h.0, up-append (suc x) xs mid ys hi h.1 k)

-- ---- terminals that ascend

abbrev pub Numbered : ℕ → List Terminal → ℕ → Type 0
Numbered lo [] hi = lo ≤ hi
Numbered lo (t ∷ ts) hi = (lo ≤ t.number) × Numbered (suc t.number) ts hi

pub numbered_le : (lo : ℕ) (ts : List Terminal) (hi : ℕ) → Numbered lo ts hi → lo ≤ hi
numbered_le lo [] hi h = h
numbered_le lo (t ∷ ts) hi h = let rest = numbered_le (suc t.number) ts hi h.1 in omega (arith, h.0, rest)

pub numbered_lower : (low lo : ℕ) (ts : List Terminal) (hi : ℕ) → low ≤ lo → Numbered lo ts hi → Numbered low ts hi
numbered_lower low lo [] hi le h = omega (arith, le, h)
numbered_lower low lo (t ∷ ts) hi le h = (omega (arith, le, h.0), h.1)

pub numbered_raise : (lo : ℕ) (ts : List Terminal) (hi high : ℕ) → hi ≤ high → Numbered lo ts hi → Numbered lo ts high
numbered_raise lo [] hi high le h = omega (arith, le, h)
numbered_raise lo (t ∷ ts) hi high le h = (h.0, numbered_raise (suc t.number) ts hi high le h.1)

-- ---- what a form leaves

abbrev pub LeftOf : {K : Type 0} → ℕ → ℕ → K × State → Type 0
LeftOf lo hi f = Numbered lo f.1.left hi

module _ (lo hi : ℕ) where
  abbrev Fits : List Terminal → Type 0
  Fits ts = Numbered lo ts hi

  tail : (t : Terminal) (ts : List Terminal) → Fits (t ∷ ts) → Fits ts
  tail t ts h = numbered_lower lo (suc t.number) ts hi (omega (arith, h.0)) h.1

  pub word_left : (w : Keyword) (ts : List Terminal) → Fits ts → IfThere Fits (after_word w ts)
  word_left = left.word_left Fits tail

  pub drop_left : (n : ℕ) (ts : List Terminal) → Fits ts → Fits (drop n ts)
  drop_left = left.drop_left Fits tail

  pub whole_left : {K : Type 0} (rows : List (K × List Part)) (ts : List Terminal) → Fits ts → IfThere (LeftOf lo hi) (first_whole rows ts)
  whole_left = left.whole_left Fits tail

  pub front_left : (y : Symbol) (ts : List Terminal) → Fits ts → IfThere (LeftOf lo hi) (front_by y ts)
  front_left = left.front_left Fits tail

  pub verb_left : (ts : List Terminal) → Fits ts → Fits (from_verb ts)
  verb_left = left.verb_left Fits tail
