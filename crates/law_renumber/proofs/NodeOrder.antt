-- The statements and the actions of a tree begin at tokens that ascend.
use Rattle.std.proofs.Common.{◌≡◌, ℕ, zero, suc, ◌+◌, ◌-◌, ◌<◌, ◌≤◌, Bool, true, false, List, [], ◌∷◌, length, map, max, take, refl, Option, Some, None, Result, Ok, Err, sym, ap, subst, arith, ◌∙◌}
use Rattle.std.specs.Prelude.{if◌then◌else◌, ◌&&◌, ◌==◌, is_some, min}
use Rattle.std.specs.Ordering.{MatchOrdering, nat_cmp}
use Rattle.std.specs.declared.cmp.Ordering.{Ordering}
use Rattle.std.specs.declared.cmp.Ordering.TheVariants.{Less, Equal, Greater}
use Rattle.std.specs.Option.{option_and_then, option_map}
use Rattle.std.specs.List.{flat_map, AllByRecursion}
use Rattle.std.specs.List.Sorted.{IsStrictlyIncreasing, IsStrictlySortedBy}
use Rattle.std.proofs.lemmas.Cmp.{ranked}
use Rattle.std.proofs.lemmas.Map.Keys.{IsStrictlyIncreasing-from_sorted}
use Rattle.sql_token.specs.declared.terminal.Terminal.{Terminal}
use Rattle.sql_token.specs.declared.token.Span.{Span}
use Rattle.sql_token.specs.declared.token.Tok.{Tok}
use Rattle.sql_token.specs.Depth.{statements, statements_from, onto, one_if, span_of}
use Rattle.sql_token.specs.Sound.{is_sound}
use Rattle.sql_token.specs.Terminal.{is_closer, is_opener, is_semicolon, is_significant, symbol_of, terminals, terminals_from}
use Rattle.sql_token.specs.Token.{Text, text_of}
use Rattle.sql_token.proofs.Statements.{by_counts}
use Rattle.sql_tree.specs.sql_keyword.declared.words.TheConstants.Keyword as keyword
use Rattle.sql_tree.specs.declared.kinds.StmtKind.{StmtKind}
use Rattle.sql_tree.specs.declared.forms.BodyShape.{BodyShape}
use Rattle.sql_tree.specs.declared.forms.BodyShape.TheVariants as shape
use Rattle.sql_tree.specs.declared.nodes.Action.{Action}
use Rattle.sql_tree.specs.declared.nodes.Body.{Body}
use Rattle.sql_tree.specs.declared.nodes.Body.TheVariants as body
use Rattle.sql_tree.specs.declared.nodes.Elem.{Elem}
use Rattle.sql_tree.specs.declared.nodes.Stmt.{Stmt}
use Rattle.sql_tree.specs.Action as act
use Rattle.sql_tree.specs.Column.{domain_constraints, drops_on_commit, elements}
use Rattle.sql_tree.specs.Forms.{State}
use Rattle.sql_tree.specs.Groups.{inside_list}
use Rattle.sql_tree.specs.Nodes.{actions_in, action_starts, elements_in}
use Rattle.sql_tree.specs.Split.{all_of, and_others, comma, split, split_from, Test}
use Rattle.sql_tree.specs.Statement.{Tree, IsTree, final_kind, body_shape_of, body_by, kind_and_body, front_by, from_verb, form_from, form_of, last_of, without_semicolon, stmt_in, statement, and_then_all, all_statements, read_tokens}
use Rattle.sql_tree.specs.Tails.{after_flag, after_options, paths_from, reindex, reindex_body, reindex_object, target_symbol, whole_path}
use Rattle.sql_tree.specs.Write.{targets, table_write}
use Rattle.law_renumber.specs.Moved.{action_moved}
use Rattle.law_renumber.specs.Renumber.{renumber}
use Rattle.law_renumber.specs.Order.{StatementsAscend, ActionsAscend}
use Rattle.law_renumber.proofs.Actions.{action_numbers}
use Rattle.law_renumber.proofs.There.{IfThere, from_there, if_there}
use Rattle.law_renumber.proofs.Ordered.{Up, up_lower, up-append, Numbered, numbered_le, numbered_lower, LeftOf, front_left, verb_left}

-- ---- a number that no change outside of a range changes is in the range

abbrev pub Fixes : ℕ → ℕ → (ℕ → ℕ) → Type 0
Fixes lo hi f = (n : ℕ) → lo ≤ n → n < hi → f n ≡ n

renumbered : (f : ℕ → ℕ) (t : Terminal) → f t.number ≡ t.number → renumber f t ≡ t
renumbered f t e = ap (λ (n : ℕ). record { symbol = t.symbol; number = n }) e

pub fixed : (lo hi : ℕ) (f : ℕ → ℕ) → Fixes lo hi f → (ts : List Terminal) → Numbered lo ts hi → map (renumber f) ts ≡ ts
fixed lo hi f fix [] h = refl
fixed lo hi f fix (t ∷ ts) h =
    let rest = numbered_le (suc t.number) ts hi h.1 in
    let one : renumber f t ≡ t = renumbered f t (fix t.number h.0 (omega (arith, rest))) in
    let more : map (renumber f) ts ≡ ts = fixed lo hi f fix ts (numbered_lower lo (suc t.number) ts hi (omega (arith, h.0)) h.1) in
    λ i. one i ∷ more i

abbrev InRange : ℕ → ℕ → Action → Type 0
InRange lo hi x = (lo ≤ x.first) × (x.first < hi)

abbrev first_or : Option Action → ℕ
first_or None = 0
first_or (Some x) = x.first

in_range : (lo hi : ℕ) → 0 < hi → (o : Option Action) → ((f : ℕ → ℕ) → Fixes lo hi f → option_map (action_moved f) o ≡ o) → IfThere (InRange lo hi) o
in_range lo hi some None h = tt
in_range lo hi some (Some x) h =
    let low : max lo x.first ≡ x.first = ap first_or (h (λ n. max lo n) (λ n le lt. omega (arith, le))) in
    let high : min (hi - 1) x.first ≡ x.first = ap first_or (h (λ n. min (hi - 1) n) (λ n le lt. omega (arith, lt))) in
    (omega (arith, low), omega (arith, high, some))

no_action : (kind : StmtKind) (lo hi : ℕ) → IfThere (InRange lo hi) (act.action kind [])
unfolding act.action
no_action kind lo hi = tt

action_in : (kind : StmtKind) (lo : ℕ) (ts : List Terminal) (hi : ℕ) → Numbered lo ts hi → IfThere (InRange lo hi) (act.action kind ts)
action_in kind lo [] hi h = no_action kind lo hi
action_in kind lo (t ∷ ts) hi h =
    let rest = numbered_le (suc t.number) ts hi h.1 in
    in_range lo hi (omega (arith, rest)) (act.action kind (t ∷ ts))
    (λ f fix. sym (action_numbers f kind (t ∷ ts)) ∙ ap (act.action kind) (fixed lo hi f fix (t ∷ ts) h))

-- ---- slices

-- each slice ascends, and is below those after it
abbrev pub Sliced : ℕ → List (List Terminal) → ℕ → Type 0
Sliced lo [] hi = lo ≤ hi
Sliced lo (p ∷ ps) hi = (mid : ℕ) × (Numbered lo p mid × Sliced mid ps hi)

onto_sliced : (lo : ℕ) (t : Terminal) (ps : List (List Terminal)) (hi : ℕ) → lo ≤ t.number → Sliced (suc t.number) ps hi → Sliced lo (onto t ps) hi
onto_sliced lo t [] hi le h = (suc t.number, ((le, omega arith), h))
onto_sliced lo t (p ∷ ps) hi le h = (h.0, ((le, h.1.0), h.1.1))

cut_by : (b : Bool) (lo : ℕ) (t : Terminal) (cut ps : List (List Terminal)) (hi : ℕ) → lo ≤ t.number → Sliced (suc t.number) cut hi → Sliced (suc t.number) ps hi → Sliced lo (if b then [] ∷ cut else onto t ps) hi
cut_by true lo t cut ps hi le h k = (suc t.number, (omega (arith, le), h))
cut_by false lo t cut ps hi le h k = onto_sliced lo t ps hi le k

pub split_sliced : (mark : Test) (earlier : Option Terminal) (o c lo : ℕ) (ts : List Terminal) (hi : ℕ) → Numbered lo ts hi → Sliced lo (split_from mark earlier o c ts) hi
split_sliced mark earlier o c lo [] hi h = (lo, (omega arith, h))
split_sliced mark earlier o c lo (t ∷ ts) hi h =
    cut_by (o == c && mark earlier t ts) lo t (split_from mark (Some t) 0 0 ts) (split_from mark (Some t) (o + one_if (is_opener t)) (c + one_if (is_closer t)) ts) hi h.0
    (split_sliced mark (Some t) 0 0 (suc t.number) ts hi h.1) (split_sliced mark (Some t) (o + one_if (is_opener t)) (c + one_if (is_closer t)) (suc t.number) ts hi h.1)

end_by : (b : Bool) (lo : ℕ) (t : Terminal) (cut ps : List (List Terminal)) (hi : ℕ) → lo ≤ t.number → Sliced (suc t.number) cut hi → Sliced (suc t.number) ps hi → Sliced lo (if b then (t ∷ []) ∷ cut else onto t ps) hi
end_by true lo t cut ps hi le h k = (suc t.number, ((le, omega arith), h))
end_by false lo t cut ps hi le h k = onto_sliced lo t ps hi le k

statements_sliced : (o c lo : ℕ) (ts : List Terminal) (hi : ℕ) → Numbered lo ts hi → Sliced lo (statements_from o c ts) hi
statements_sliced o c lo [] hi h = h
statements_sliced o c lo (t ∷ ts) hi h =
    end_by (o == c && is_semicolon t) lo t (statements_from 0 0 ts) (statements_from (o + one_if (is_opener t)) (c + one_if (is_closer t)) ts) hi h.0
    (statements_sliced 0 0 (suc t.number) ts hi h.1) (statements_sliced (o + one_if (is_opener t)) (c + one_if (is_closer t)) (suc t.number) ts hi h.1)

-- no slice is empty
abbrev Full : List (List Terminal) → Type 0
Full [] = Unit {0}
Full ([] ∷ ps) = ⊥
Full ((t ∷ p) ∷ ps) = Full ps

onto_full : (t : Terminal) (ps : List (List Terminal)) → Full ps → Full (onto t ps)
onto_full t [] h = tt
onto_full t ([] ∷ ps) h = absurd h
onto_full t ((u ∷ p) ∷ ps) h = h

full_by : (b : Bool) (t : Terminal) (cut ps : List (List Terminal)) → Full cut → Full ps → Full (if b then (t ∷ []) ∷ cut else onto t ps)
full_by true t cut ps h k = h
full_by false t cut ps h k = onto_full t ps k

statements_full : (o c : ℕ) (ts : List Terminal) → Full (statements_from o c ts)
statements_full o c [] = tt
statements_full o c (t ∷ ts) =
    full_by (o == c && is_semicolon t) t (statements_from 0 0 ts) (statements_from (o + one_if (is_opener t)) (c + one_if (is_closer t)) ts)
    (statements_full 0 0 ts) (statements_full (o + one_if (is_opener t)) (c + one_if (is_closer t)) ts)

-- ---- actions

abbrev starts : List Action → List ℕ
starts xs = map (λ a. a.first) xs

others_up : (lo mid hi : ℕ) (o : Option Action) (r : Option (List Action)) → IfThere (InRange lo mid) o → IfThere (λ xs. Up mid (starts xs) hi) r → IfThere (λ xs. Up lo (starts xs) hi) (and_others o r)
others_up lo mid hi None r h k = tt
others_up lo mid hi (Some x) None h k = tt
others_up lo mid hi (Some x) (Some xs) h k = (h.0, up_lower (suc x.first) mid (starts xs) hi h.1 k)

parts_up : (kind : StmtKind) (lo : ℕ) (ps : List (List Terminal)) (hi : ℕ) → Sliced lo ps hi → IfThere (λ xs. Up lo (starts xs) hi) (all_of (act.action kind) ps)
parts_up kind lo [] hi h = h
parts_up kind lo (p ∷ ps) hi h = others_up lo h.0 hi (act.action kind p) (all_of (act.action kind) ps) (action_in kind lo p h.0 h.1.0) (parts_up kind h.0 ps hi h.1.1)

actions_up : (kind : StmtKind) (lo : ℕ) (ts : List Terminal) (hi : ℕ) → Numbered lo ts hi → IfThere (λ xs. Up lo (starts xs) hi) (act.actions_of kind ts)
unfolding act.actions_of act.several_actions act.one_action split
actions_up kind lo ts hi h =
    if_there (λ xs. Up lo (starts xs) hi) (act.has_several kind) (all_of (act.action kind) (split comma ts)) (all_of (act.action kind) (ts ∷ []))
    (parts_up kind lo (split comma ts) hi (split_sliced comma None 0 0 lo ts hi h)) (parts_up kind lo (ts ∷ []) hi (hi, (h, omega arith)))

-- ---- statements

-- the numbers that a body has, by the elements of its table and by its actions
module _ (nums : List Elem → List Action → List ℕ) (lo hi : ℕ)
    (none : lo ≤ hi → Up lo (nums [] []) hi)
    (table : (ts : List Terminal) → Numbered lo ts hi → Up lo (nums (elements ts) []) hi)
    (alter : (kind : StmtKind) (ts : List Terminal) → Numbered lo ts hi → IfThere (λ xs. Up lo (nums [] xs) hi) (act.actions_of kind ts)) where
  abbrev InBody : Body → Type 0
  InBody b = Up lo (nums (elements_in b) (actions_in b)) hi

  with_actions : (path : Option Span) (o : Option (List Action)) → IfThere (λ xs. Up lo (nums [] xs) hi) o → IfThere InBody (option_and_then (λ actions. Some (body.Alter path actions)) o)
  with_actions path None h = tt
  with_actions path (Some actions) h = h

  some_body : {X : Type 0} (f : X → Body) → ((x : X) → InBody (f x)) → (o : Option X) → IfThere InBody (option_and_then (λ x. Some (f x)) o)
  some_body f h None = tt
  some_body f h (Some x) = h x

  two_body : {X Y : Type 0} (f : X → Y → Body) → ((x : X) (y : Y) → InBody (f x y)) → (o : Option X) (r : Option Y) → IfThere InBody (option_and_then (λ x. option_and_then (λ y. Some (f x y)) r) o)
  two_body f h None r = tt
  two_body f h (Some x) None = tt
  two_body f h (Some x) (Some y) = h x y

  reindex_up : (inside ts : List Terminal) → lo ≤ hi → IfThere InBody (reindex_object inside ts)
  unfolding reindex_object
  reindex_up inside [] le = tt
  reindex_up inside (t ∷ ts) le =
      two_body (λ found path. reindex_body inside t ts found path) (λ found path. none le) (target_symbol t.symbol) (whole_path (after_flag keyword.CONCURRENTLY ts))

  body_up : (sh : BodyShape) (kind : StmtKind) (x : State) (ts : List Terminal) → lo ≤ hi → Numbered lo x.left hi → IfThere InBody (body_by sh kind x ts)
  unfolding body_by reindex
  body_up shape.Alter kind x ts le left = with_actions x.kept.path (act.actions_of kind x.left) (alter kind x.left left)
  body_up shape.Table kind x ts le left =
      two_body (λ word path. body.Table x.kept.temp x.kept.guarded (drops_on_commit x.left) word path (elements x.left)) (λ word path. table x.left left) x.kept.word x.kept.path
  body_up shape.Into kind x ts le left = some_body (λ path. body.Into path (targets ts)) (λ path. none le) x.kept.path
  body_up shape.Index kind x ts le left =
      two_body (λ word path. body.Index word x.kept.unique x.kept.concurrently x.kept.guarded x.kept.name path) (λ word path. none le) x.kept.word x.kept.path
  body_up shape.Drop kind x ts le left =
      two_body (λ (word : ℕ) (path : Span). body.Drop word (is_some x.kept.concurrently) x.kept.guarded (paths_from path.first path.last x.left)) (λ word path. none le) x.kept.word x.kept.path
  body_up shape.Reindex kind x ts le left = reindex_up (inside_list x.left) (after_options x.left) le
  body_up shape.Domain kind x ts le left = some_body (λ constraints. body.Domain constraints) (λ constraints. none le) (domain_constraints x.left)
  body_up shape.Made kind x ts le left = some_body (λ path. body.Made path x.kept.guarded) (λ path. none le) x.kept.path
  body_up shape.Write kind x ts le left = some_body (λ path. body.Write (table_write kind path x.left)) (λ path. none le) x.kept.path
  body_up _ kind x ts le left = none le

  abbrev InForm : StmtKind × Body → Type 0
  InForm f = InBody f.1

  with_kind : (kind : StmtKind) (o : Option Body) → IfThere InBody o → IfThere InForm (option_and_then (λ b. Some (kind, b)) o)
  with_kind kind None h = tt
  with_kind kind (Some b) h = h

  told_up : (ts : List Terminal) → lo ≤ hi → (f : StmtKind × State) → LeftOf lo hi f → IfThere InForm (kind_and_body ts f)
  unfolding kind_and_body
  told_up ts le f left = with_kind (final_kind f.0 f.1) (body_by (body_shape_of f.0) f.0 f.1 ts) (body_up (body_shape_of f.0) f.0 f.1 ts le left)

  form_from_up : (ts : List Terminal) → Numbered lo ts hi → IfThere InForm (form_from ts)
  unfolding form_from
  form_from_up [] h = none h
  form_from_up (t ∷ ts) h =
      from_there (LeftOf lo hi) InForm (kind_and_body ts) (told_up ts (numbered_le lo (t ∷ ts) hi h)) (front_by t.symbol ts)
      (front_left lo hi t.symbol ts (numbered_lower lo (suc t.number) ts hi (omega (arith, h.0)) h.1))

  form_up : (ts : List Terminal) → Numbered lo ts hi → IfThere InForm (form_of ts)
  unfolding form_of
  form_up [] h = none h
  form_up (t ∷ ts) h = form_from_up (from_verb (t ∷ ts)) (verb_left lo hi (t ∷ ts) h)

pub take_numbered : (n lo : ℕ) (ts : List Terminal) (hi : ℕ) → Numbered lo ts hi → Numbered lo (take n ts) hi
take_numbered zero lo ts hi h = numbered_le lo ts hi h
take_numbered (suc n) lo [] hi h = h
take_numbered (suc n) lo (t ∷ ts) hi h = (h.0, take_numbered n (suc t.number) ts hi h.1)

without_numbered : (lo : ℕ) (ts : List Terminal) (hi : ℕ) → Numbered lo ts hi → Numbered lo (without_semicolon ts) hi
without_numbered lo ts hi h = by (is_semicolon (last_of ts))
  where
    by : (b : Bool) → Numbered lo (if b then take (length ts - 1) ts else ts) hi
    by true = take_numbered (length ts - 1) lo ts hi h
    by false = h

with_span : (P : Body → Type 0) (span : Span) (o : Option (StmtKind × Body)) → IfThere (λ f. P f.1) o → IfThere (λ (s : Stmt). P s.body) (option_and_then (λ f. Some (stmt_in span f)) o)
with_span P span None h = tt
with_span P span (Some f) h = h

-- The numbers of a statement's body ascend where those of a table's elements and those of actions do.
pub statement_up : (nums : List Elem → List Action → List ℕ) (lo hi : ℕ)
    → (lo ≤ hi → Up lo (nums [] []) hi)
    → ((ts : List Terminal) → Numbered lo ts hi → Up lo (nums (elements ts) []) hi)
    → ((kind : StmtKind) (ts : List Terminal) → Numbered lo ts hi → IfThere (λ xs. Up lo (nums [] xs) hi) (act.actions_of kind ts))
    → (ts : List Terminal) → Numbered lo ts hi → IfThere (λ (s : Stmt). Up lo (nums (elements_in s.body) (actions_in s.body)) hi) (statement ts)
unfolding statement
statement_up nums lo hi none table alter ts h =
    if_there (λ (s : Stmt). Up lo (nums (elements_in s.body) (actions_in s.body)) hi) (is_sound ts) _ None
    (with_span (InBody nums lo hi none table alter) (span_of ts) (form_of (without_semicolon ts)) (form_up nums lo hi none table alter (without_semicolon ts) (without_numbered lo ts hi h))) tt

statement_actions : (lo : ℕ) (ts : List Terminal) (hi : ℕ) → Numbered lo ts hi → IfThere (λ (s : Stmt). Up lo (starts (actions_in s.body)) hi) (statement ts)
statement_actions lo ts hi h =
    statement_up (λ es xs. starts xs) lo hi (λ le. le) (λ ts k. numbered_le lo ts hi k) (λ kind ts k. actions_up kind lo ts hi k) ts h

with_first : (lo hi : ℕ) (span : Span) → Up lo (span.first ∷ []) hi → (o : Option (StmtKind × Body)) → IfThere (λ (s : Stmt). Up lo (s.first ∷ []) hi) (option_and_then (λ f. Some (stmt_in span f)) o)
with_first lo hi span h None = tt
with_first lo hi span h (Some f) = h

statement_first : (lo : ℕ) (t : Terminal) (ts : List Terminal) (hi : ℕ) → Numbered lo (t ∷ ts) hi → IfThere (λ (s : Stmt). Up lo (s.first ∷ []) hi) (statement (t ∷ ts))
unfolding statement
statement_first lo t ts hi h =
    if_there (λ (s : Stmt). Up lo (s.first ∷ []) hi) (is_sound (t ∷ ts)) _ None
    (with_first lo hi (span_of (t ∷ ts)) (h.0, numbered_le (suc t.number) ts hi h.1) (form_of (without_semicolon (t ∷ ts)))) tt

-- ---- trees

abbrev OfOk : (List Stmt → Type 0) → Result (List Stmt) ℕ → Type 0
OfOk P (Ok ss) = P ss
OfOk P (Err n) = Unit {0}

-- the numbers that a list of statements has
module _ (g : Stmt → List ℕ) (each : (lo : ℕ) (t : Terminal) (ts : List Terminal) (hi : ℕ) → Numbered lo (t ∷ ts) hi → IfThere (λ s. Up lo (g s) hi) (statement (t ∷ ts))) where
  followed_up : (lo mid hi : ℕ) (o : Option Stmt) (n : ℕ) (r : Result (List Stmt) ℕ) → IfThere (λ s. Up lo (g s) mid) o → OfOk (λ ss. Up mid (flat_map g ss) hi) r → OfOk (λ ss. Up lo (flat_map g ss) hi) (and_then_all o n r)
  followed_up lo mid hi None n r h k = tt
  followed_up lo mid hi (Some s) n (Ok ss) h k = up-append lo (g s) mid (flat_map g ss) hi h k
  followed_up lo mid hi (Some s) n (Err m) h k = tt

  all_up : (lo : ℕ) (ps : List (List Terminal)) (hi : ℕ) → Full ps → Sliced lo ps hi → OfOk (λ ss. Up lo (flat_map g ss) hi) (all_statements ps)
  all_up lo [] hi full h = h
  all_up lo ([] ∷ ps) hi full h = absurd full
  all_up lo ((t ∷ p) ∷ ps) hi full h =
      followed_up lo h.0 hi (statement (t ∷ p)) (span_of (t ∷ p)).first (all_statements ps) (each lo t p h.0 h.1.0) (all_up h.0 ps hi full h.1.1)

  numbered_tokens : (t : Text) (n : ℕ) (toks : List Tok) → Numbered n (terminals_from t n toks) (n + length toks)
  numbered_tokens t n [] = omega arith
  numbered_tokens t n (k ∷ toks) = by (is_significant k.kind) (numbered_tokens t (n + 1) toks)
    where
      by : (b : Bool) → Numbered (n + 1) (terminals_from t (n + 1) toks) (n + 1 + length toks)
          → Numbered n (if b then record { symbol = symbol_of k.kind (text_of t k); number = n } ∷ terminals_from t (n + 1) toks else terminals_from t (n + 1) toks) (n + length (k ∷ toks))
      by b h =
          let low : n + 1 ≡ suc n = omega arith in
          let high : n + 1 + length toks ≡ n + length (k ∷ toks) = omega arith in
          let all : Numbered (suc n) (terminals_from t (n + 1) toks) (n + length (k ∷ toks)) = subst (λ x. Numbered x (terminals_from t (n + 1) toks) (n + length (k ∷ toks))) low (subst (λ x. Numbered (n + 1) (terminals_from t (n + 1) toks) x) high h) in
          test b all
        where
          test : (b : Bool) → Numbered (suc n) (terminals_from t (n + 1) toks) (n + length (k ∷ toks))
              → Numbered n (if b then record { symbol = symbol_of k.kind (text_of t k); number = n } ∷ terminals_from t (n + 1) toks else terminals_from t (n + 1) toks) (n + length (k ∷ toks))
          test true all = (omega arith, all)
          test false all = numbered_lower n (suc n) (terminals_from t (n + 1) toks) (n + length (k ∷ toks)) (omega arith) all

  pub tree_up : (tree : Tree) → IsTree tree → Up 0 (flat_map g tree.stmts) (0 + length tree.toks)
  unfolding read_tokens terminals
  tree_up tree is =
      let ts : List Terminal = terminals_from tree.text 0 tree.toks in
      let hi : ℕ = 0 + length tree.toks in
      let numbers : Numbered 0 ts hi = numbered_tokens tree.text 0 tree.toks in
      let cut : statements ts ≡ statements_from 0 0 ts = by_counts ts in
      let all : OfOk (λ ss. Up 0 (flat_map g ss) hi) (all_statements (statements_from 0 0 ts)) = all_up 0 (statements_from 0 0 ts) hi (statements_full 0 0 ts) (statements_sliced 0 0 0 ts hi numbers) in
      subst (OfOk (λ ss. Up 0 (flat_map g ss) hi)) (ap all_statements (sym cut) ∙ is.read) all

-- ---- ascending lists

is_less : (a b : ℕ) (r : Ordering) → MatchOrdering r (a < b) (a ≡ b) (b < a) → a < b → r ≡ Less
is_less a b Less h lt = refl
is_less a b Equal h lt = absurd (omega (arith, h, lt))
is_less a b Greater h lt = absurd (omega (arith, h, lt))

less : (a b : ℕ) → a < b → nat_cmp a b ≡ Less
less a b lt = is_less a b (nat_cmp a b) (ranked a b (nat_cmp a b) refl) lt

above : (x : ℕ) (lo : ℕ) (ns : List ℕ) (hi : ℕ) → x < lo → Up lo ns hi → AllByRecursion (λ y. nat_cmp x y ≡ Less) ns
above x lo [] hi lt h = tt
above x lo (n ∷ ns) hi lt h = (less x n (omega (arith, lt, h.0)), above x (suc n) ns hi (omega (arith, lt, h.0)) h.1)

sorted : (lo : ℕ) (ns : List ℕ) (hi : ℕ) → Up lo ns hi → IsStrictlySortedBy nat_cmp ns
unfolding IsStrictlySortedBy
sorted lo [] hi h = tt
sorted lo (n ∷ ns) hi h = (above n (suc n) ns hi (omega arith) h.1, sorted (suc n) ns hi h.1)

pub increasing : (lo : ℕ) (ns : List ℕ) (hi : ℕ) → Up lo ns hi → IsStrictlyIncreasing ns
increasing lo ns hi h = IsStrictlyIncreasing-from_sorted ns (sorted lo ns hi h)

one_each : (ss : List Stmt) → flat_map (λ s. s.first ∷ []) ss ≡ map (λ s. s.first) ss
one_each [] = refl
one_each (s ∷ ss) = ap (λ ns. s.first ∷ ns) (one_each ss)

pub statements_ascend : StatementsAscend
statements_ascend tree is =
    subst IsStrictlyIncreasing (one_each tree.stmts) (increasing 0 (flat_map (λ s. s.first ∷ []) tree.stmts) (0 + length tree.toks) (tree_up (λ s. s.first ∷ []) statement_first tree is))

pub actions_ascend : ActionsAscend
actions_ascend tree is =
    increasing 0 (action_starts tree) (0 + length tree.toks) (tree_up (λ s. map (λ a. a.first) (actions_in s.body)) (λ lo t ts hi h. statement_actions lo (t ∷ ts) hi h) tree is)
