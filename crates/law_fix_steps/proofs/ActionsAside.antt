-- An action that detaches a partition does not begin in the tokens of a column type.
use Rattle.std.proofs.Common.{◌≡◌, ℕ, suc, ◌<◌, ◌≤◌, ◌⊎◌, inl, inr, true, List, [], ◌∷◌, ◌++◌, map, sym, refl, ap, ◌∙◌, subst, arith, Option, Some, None}
use Rattle.std.proofs.lemmas.List.Elements.{All-nil, All-cons, All-head, All-tail}
use Rattle.std.specs.Prelude.{All}
use Rattle.std.specs.Option.{option_map}
use Rattle.law_type_fixes.specs.sql_keyword.declared.words.TheConstants.Keyword as keyword
use Rattle.law_type_fixes.specs.sql_token.declared.terminal.Terminal.{Terminal}
use Rattle.law_type_fixes.specs.sql_token.declared.token.Span.{Span}
use Rattle.law_type_fixes.specs.sql_tree.declared.kinds.StmtKind.TheVariants as stmt
use Rattle.law_type_fixes.specs.sql_tree.declared.nodes.Action.{Action}
use Rattle.law_type_fixes.specs.sql_tree.declared.nodes.Body.TheVariants as body
use Rattle.law_type_fixes.specs.sql_tree.declared.nodes.ColType.{ColType}
use Rattle.law_type_fixes.specs.sql_tree.declared.nodes.Stmt.{Stmt}
use Rattle.law_type_fixes.specs.sql_tree.Action.{action, several_actions}
use Rattle.law_type_fixes.specs.sql_tree.Split.{all_of, and_others, comma, split}
use Rattle.law_type_fixes.specs.sql_tree.Statement.{Tree, IsTree, without_semicolon}
use Rattle.law_type_fixes.specs.law_renumber.Moved.{action_moved, type_moved}
use Rattle.law_type_fixes.proofs.of_law_renumber.Actions.{action_numbers}
use Rattle.law_type_fixes.proofs.of_law_renumber.NodeOrder.{Fixes, Sliced, fixed, split_sliced}
use Rattle.law_type_fixes.proofs.of_law_renumber.Ordered.{Numbered, numbered_le}
use Rattle.law_type_fixes.proofs.of_law_renumber.There.{IfThere}
use Rattle.law_type_fixes.specs.law_edit_inserts.Apart.{outside}
use Rattle.law_type_fixes.specs.law_edit_inserts.Concurrently.{key}
use Rattle.law_type_fixes.proofs.of_law_edit_inserts.AlterShapes.{alter_table_shows}
use Rattle.law_type_fixes.proofs.of_law_edit_inserts.Apart.{stays_within}
use Rattle.law_type_fixes.proofs.of_law_edit_inserts.Detaches.{detach_shows}
use Rattle.law_type_fixes.specs.lint_node.ColumnTypes.{action_types}
use Rattle.law_type_fixes.specs.lint_node.Plain.{is_plain_detach}
use Rattle.law_type_fixes.proofs.of_law_fixes.Detached.{is_plain}
use Rattle.law_type_fixes.proofs.ColumnTypes.{action_types_moved}
use Rattle.law_type_fixes.proofs.Homes.{Home}
use Rattle.law_type_fixes.proofs.TypesApart.{numbered_parts}
use Rattle.law_type_fixes.proofs.of_law_edit_inserts.Apart.{stays}
use Rattle.law_fix_steps.proofs.Ascending.{ascends}
use Rattle.law_fix_steps.proofs.Moved.{fixed_types}

-- ---- the numbers of an action

-- It stays where all numbers but those from lo to before hi change.
abbrev Held : ℕ → ℕ → Action → Type 0
Held lo hi x = (g : ℕ → ℕ) → Fixes lo hi g → action_moved g x ≡ x

-- So it is; a plain DETACH PARTITION holds no number before its first one.
record Slot (lo hi : ℕ) (x : Action) : Type 0 where
  pub held : Held lo hi x
  pub begins : is_plain_detach x ≡ true → Held x.first hi x

held_by : (lo hi : ℕ) (ts : List Terminal) (x : Action) → Numbered lo ts hi → action stmt.AlterTable ts ≡ Some x → Held lo hi x
held_by lo hi ts x h e g fix =
    inside (sym (ap (λ (o : Option Action). option_map (action_moved g) o) e) ∙ sym (action_numbers g stmt.AlterTable ts) ∙ ap (action stmt.AlterTable) (fixed lo hi g fix ts h) ∙ e)
  where
    inside : {x y : Action} → Some x ≡ Some y → x ≡ y
    inside e = cc

detach_held : (lo hi : ℕ) (ts : List Terminal) (x : Action) → Numbered lo ts hi → action stmt.AlterTable ts ≡ Some x → is_plain_detach x ≡ true → Held x.first hi x
detach_held lo hi ts x h e plain =
    let p = is_plain x plain in
    let shape = detach_shows ts x e p.kind p.none in
    let up : (lo ≤ shape.detach) × Numbered (suc shape.detach) (key keyword.PARTITION shape.partition ∷ shape.t ∷ shape.path) hi = subst (λ (l : List Terminal). Numbered lo l hi) shape.parts h in
    let first = shape.begins in
    held_by x.first hi (key keyword.DETACH shape.detach ∷ key keyword.PARTITION shape.partition ∷ shape.t ∷ shape.path) x (omega (arith, first), up.1) (ap (action stmt.AlterTable) (sym shape.parts) ∙ e)

slot_of : (lo hi : ℕ) (ts : List Terminal) → Numbered lo ts hi → IfThere (Slot lo hi) (action stmt.AlterTable ts)
slot_of lo hi ts h = by (action stmt.AlterTable ts) refl
  where
    by : (o : Option Action) → action stmt.AlterTable ts ≡ o → IfThere (Slot lo hi) o
    by None e = tt
    by (Some x) e = record { held = held_by lo hi ts x h e; begins = detach_held lo hi ts x h e }

-- ---- actions one after another

abbrev Spread : ℕ → List Action → ℕ → Type 0
Spread lo [] hi = lo ≤ hi
Spread lo (x ∷ xs) hi = (mid : ℕ) × ((lo ≤ mid) × (Slot lo mid x × Spread mid xs hi))

others_spread : (lo mid hi : ℕ) (o : Option Action) (r : Option (List Action)) → lo ≤ mid → IfThere (Slot lo mid) o → IfThere (λ xs. Spread mid xs hi) r → IfThere (λ xs. Spread lo xs hi) (and_others o r)
others_spread lo mid hi None r le h k = tt
others_spread lo mid hi (Some x) None le h k = tt
others_spread lo mid hi (Some x) (Some xs) le h k = (mid, (le, (h, k)))

parts_spread : (lo : ℕ) (ps : List (List Terminal)) (hi : ℕ) → Sliced lo ps hi → IfThere (λ xs. Spread lo xs hi) (all_of (action stmt.AlterTable) ps)
parts_spread lo [] hi h = h
parts_spread lo (p ∷ ps) hi h =
    others_spread lo h.0 hi (action stmt.AlterTable p) (all_of (action stmt.AlterTable) ps) (numbered_le lo p h.0 h.1.0) (slot_of lo h.0 p h.1.0) (parts_spread h.0 ps hi h.1.1)

tail_spread : (lo : ℕ) (tail : List Terminal) (hi : ℕ) (actions : List Action) → Numbered lo tail hi → several_actions stmt.AlterTable tail ≡ Some actions → Spread lo actions hi
unfolding several_actions split
tail_spread lo tail hi actions h e =
    subst (λ (o : Option (List Action)). IfThere (λ xs. Spread lo xs hi) o) e (parts_spread lo (split comma tail) hi (split_sliced comma None 0 0 lo tail hi h))

-- ---- a type of an action

in_slot : (lo mid : ℕ) (b : Action) (pre : List ColType) (ty : ColType) (post : List ColType) → Held lo mid b → action_types b ≡ pre ++ ty ∷ post → (lo ≤ ty.whole.first) × (ty.inner.last < mid)
in_slot lo mid b pre ty post held e =
    let g : ℕ → ℕ = outside lo mid in
    let fix : action_moved g b ≡ b = held g (λ n le lt. stays lo mid n le lt) in
    let types : map (type_moved g) (action_types b) ≡ action_types b = sym (action_types_moved g b) ∙ ap action_types fix in
    let all = subst (λ (l : List ColType). All (λ t. type_moved g t ≡ t) l) e (fixed_types (λ t. type_moved g t ≡ t) g (λ t k. k) (action_types b) types) in
    let one = one_of pre all in
    ((stays_within lo mid ty.whole.first (ap (λ (t : ColType). t.whole.first) one)).0, (stays_within lo mid ty.inner.last (ap (λ (t : ColType). t.inner.last) one)).1)
  where
    one_of : (xs : List ColType) → All (λ t. type_moved (outside lo mid) t ≡ t) (xs ++ ty ∷ post) → type_moved (outside lo mid) ty ≡ ty
    one_of [] h = All-head (λ t. type_moved (outside lo mid) t ≡ t) ty post h
    one_of (x ∷ xs) h = one_of xs (All-tail (λ t. type_moved (outside lo mid) t ≡ t) x (xs ++ ty ∷ post) h)

first_in : (lo mid : ℕ) (c : Action) → Held lo mid c → (lo ≤ c.first) × (c.first < mid)
first_in lo mid c held = stays_within lo mid c.first (ap (λ (x : Action). x.first) (held (outside lo mid) (λ n le lt. stays lo mid n le lt)))

-- It does not begin in the type.
abbrev pub Aside : ColType → Action → Type 0
Aside ty c = is_plain_detach c ≡ true → (c.first ≤ ty.whole.first) ⊎ (ty.inner.last < c.first)

above : (n lo : ℕ) (xs : List Action) (hi : ℕ) (ty : ColType) → ty.inner.last < n → n ≤ lo → Spread lo xs hi → All (Aside ty) xs
above n lo [] hi ty p q h = All-nil (Aside ty)
above n lo (c ∷ cs) hi ty p q h =
    let first = (first_in lo h.0 c h.1.1.0.held).0 in
    let le = h.1.0 in
    All-cons (Aside ty) c cs (λ plain. inr (omega (arith, first, p, q))) (above n h.0 cs hi ty p (omega (arith, q, le)) h.1.1.1)

record AllAside (lo : ℕ) (ty : ColType) (xs : List Action) : Type 0 where
  pub all : All (Aside ty) xs
  pub low : lo ≤ ty.whole.first

aside_of : (lo : ℕ) (front : List Action) (b : Action) (back : List Action) (hi : ℕ) (pre : List ColType) (ty : ColType) (post : List ColType) → Spread lo (front ++ b ∷ back) hi → action_types b ≡ pre ++ ty ∷ post →
    AllAside lo ty (front ++ b ∷ back)
aside_of lo [] b back hi pre ty post h e =
    let slot = h.1.1.0 in
    let range = in_slot lo h.0 b pre ty post slot.held e in
    record {
      all = All-cons (Aside ty) b back (λ plain. inl (in_slot b.first h.0 b pre ty post (slot.begins plain) e).0) (above h.0 h.0 back hi ty range.1 (omega arith) h.1.1.1);
      low = range.0;
    }
aside_of lo (c ∷ front) b back hi pre ty post h e =
    let rest = aside_of h.0 front b back hi pre ty post h.1.1.1 e in
    let first = (first_in lo h.0 c h.1.1.0.held).1 in
    let low = rest.low in let le = h.1.0 in
    record {
      all = All-cons (Aside ty) c (front ++ b ∷ back) (λ plain. inl (omega (arith, first, low))) rest.all;
      low = omega (arith, low, le);
    }

-- terminals that ascend
record Up (ts : List Terminal) : Type 0 where
  pub lo : ℕ
  pub hi : ℕ
  pub up : Numbered lo ts hi

tail_up : (tail : List Terminal) → ((t u : Terminal) (rest : List Terminal) → tail ≡ t ∷ u ∷ rest → Up (t ∷ u ∷ rest)) → Up tail
tail_up [] h = record { lo = 0; hi = 0; up = omega arith }
tail_up (t ∷ []) h = record { lo = t.number; hi = suc t.number; up = (omega arith, omega arith) }
tail_up (t ∷ u ∷ rest) h = h t u rest refl

pub actions_aside : (tree : Tree) (before : List Stmt) (st : Stmt) (after : List Stmt) (path : Option Span) (actions : List Action) (earlier : List ColType) (ty : ColType) (later : List ColType) →
    IsTree tree → tree.stmts ≡ before ++ st ∷ after → st.kind ≡ stmt.AlterTable → st.body ≡ body.Alter path actions → Home action_types actions earlier ty later → All (Aside ty) actions
actions_aside tree before st after path actions earlier ty later is parts kind has home =
    let a = ascends tree before st after is parts in
    let read = a.read in
    let shape = alter_table_shows (without_semicolon a.us) path actions (read.form ∙ (λ i. Some (kind i, has i))) in
    let numbered = tail_up shape.tail (λ t u rest e. (let f = shape.fronts t u rest e in
    let p = numbered_parts a.lo a.hi f.front (t ∷ u ∷ rest) (subst (λ (x : List Terminal). Numbered a.lo x a.hi) f.parts a.up) in record { lo = p.mid; hi = a.hi; up = p.right })) in
    let spread : Spread numbered.lo (home.front ++ home.node ∷ home.back) numbered.hi =
    subst (λ (l : List Action). Spread numbered.lo l numbered.hi) home.parts (tail_spread numbered.lo shape.tail numbered.hi actions numbered.up shape.actions_are) in
    subst (λ (l : List Action). All (Aside ty) l) (sym home.parts) (aside_of numbered.lo home.front home.node home.back numbered.hi home.pre ty home.post spread home.here).all
