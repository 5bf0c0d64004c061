-- The type of an added column becomes one word.
use Rattle.std.proofs.Common.{◌≡◌, ◌⊎◌, inl, inr, ℕ, Bool, true, false, List, [], ◌∷◌, ◌++◌, append_assoc, length-append, sym, refl, ap, ◌∙◌, subst, arith, Option, Some, None}
use Rattle.std.proofs.lemmas.Bool.{and_from}
use Rattle.std.specs.List.{list_all}
use Rattle.std.specs.Option.{option_map}
use Rattle.law_edit_inserts.specs.sql_keyword.declared.words.TheConstants.Keyword as keyword
use Rattle.law_edit_inserts.specs.sql_keyword.Same.{same_keyword}
use Rattle.law_edit_inserts.specs.sql_token.declared.terminal.Symbol.{Symbol}
use Rattle.law_edit_inserts.specs.sql_token.declared.terminal.Terminal.{Terminal}
use Rattle.law_edit_inserts.specs.sql_token.Terminal.{is_keyword, is_keyword_symbol, is_name}
use Rattle.law_edit_inserts.specs.sql_tree.declared.kinds.ActionKind.TheVariants as a
use Rattle.law_edit_inserts.specs.sql_tree.declared.kinds.StmtKind.TheVariants as stmt
use Rattle.law_edit_inserts.specs.sql_tree.declared.forms.Captures.{Captures}
use Rattle.law_edit_inserts.specs.sql_tree.declared.nodes.Action.{Action}
use Rattle.law_edit_inserts.specs.sql_tree.declared.nodes.Column.{Column}
use Rattle.law_edit_inserts.specs.sql_tree.declared.nodes.Constraint.{Constraint}
use Rattle.law_edit_inserts.specs.sql_tree.declared.nodes.ColType.{ColType}
use Rattle.law_edit_inserts.specs.sql_tree.Forms.{State, fresh}
use Rattle.law_edit_inserts.specs.sql_tree.Constraint.{table_constraint}
use Rattle.law_edit_inserts.specs.sql_tree.Column.{column}
use Rattle.law_edit_inserts.specs.sql_tree.Action.{action, action_in, adding, unlisted_action}
use Rattle.law_edit_inserts.specs.sql_tree.Statement.{Tree, last_of}
use Rattle.law_edit_inserts.specs.law_renumber.Moved.{action_moved, column_moved, constraint_moved}
use Rattle.law_edit_inserts.specs.Concurrently.{key}
use Rattle.law_edit_inserts.proofs.Leading.{Given, given_is}
use Rattle.law_edit_types.specs.Names.{symbol_at}
use Rattle.law_edit_types.specs.Runs.{IsTypeSymbol}
use Rattle.law_edit_types.specs.Types.{is_replaced, retyped_column}
use Rattle.law_edit_types.specs.Altered.{retyped_action, IsConstraint, IsRetyped, AddedTypeReads}
use Rattle.law_edit_types.specs.Altered.IsRetyped.{column as same_action, constraint as a_constraint}
use Rattle.law_edit_types.proofs.Actions.{ActionReads, TypePlace, action_becomes}
use Rattle.law_edit_types.proofs.Adding.{BeginsNone, NoColumn, other_none, other_action, others_none, add_symbol, add_state, add_front, add_by, add_is}
use Rattle.law_edit_types.proofs.ConstraintNames.{constraint_named}
use Rattle.law_edit_types.proofs.Counts.{names_append, names_flat}
use Rattle.law_edit_types.proofs.Runs.{of_type, ends_append, runs_become}
use Rattle.law_edit_types.proofs.TypePlaces.{column_worded, column_at, last_number, column_moves}

-- ---- words

word_no_not : (x : Symbol) (n : ℕ) → IsTypeSymbol x → is_keyword keyword.NOT (record { symbol = x; number = n }) ≡ false
unfolding is_keyword same_keyword
word_no_not x n h = of_type (λ (x : Symbol). is_keyword keyword.NOT (record { symbol = x; number = n }) ≡ false) refl refl x h

-- ---- the action with the word

pub add_name : (n : ℕ) → is_name (key keyword.ADD n) ≡ true
unfolding is_name
add_name n = refl

pub no_column : column [] ≡ None
unfolding column
no_column = refl

pub some_action : {x y : Action} → Some x ≡ Some y → x ≡ y
some_action e = cc

pub no_some : {A : Type 0} (x : A) → None ≡ Some x → ⊥
no_some x e = cc

-- what an ADD with a column is read of
pub record Chosen (n : ℕ) (ts : List Terminal) (b : Action) (c : Column) : Type 0 where
  pub column_is : column (add_state ts).left ≡ Some c
  pub free : table_constraint ts ≡ None
  pub is : b ≡ action_in (key keyword.ADD n ∷ ts) a.AddColumn (record (add_state ts).kept { open_ended = true }) (Some c) []

pub chosen : (n : ℕ) (ts : List Terminal) (b : Action) (c : Column) → action stmt.AlterTable (key keyword.ADD n ∷ ts) ≡ Some b → b.column ≡ Some c → Chosen n ts b c
chosen n ts b c e has = by (table_constraint ts) (column (add_state ts).left) refl refl (sym (add_is n ts) ∙ e)
  where
    zs : List Terminal
    zs = key keyword.ADD n ∷ ts

    other : Given NoColumn (unlisted_action stmt.AlterTable (key keyword.ADD n ∷ ts)) → other_action (key keyword.ADD n ∷ ts) ≡ Some b → ⊥
    other g e = no_some c (sym (given_is NoColumn (other_action (key keyword.ADD n ∷ ts)) b g e) ∙ has)

    inside : {x y : Column} → Some x ≡ Some y → x ≡ y
    inside e = cc

    by : (x : Option Constraint) (r : Option Column) → table_constraint ts ≡ x → column (add_state ts).left ≡ r → add_by (key keyword.ADD n ∷ ts) x (add_state ts).kept r ≡ Some b → Chosen n ts b c
    by (Some x) r q p e = absurd (no_some c (ap (λ (y : Action). y.column) (some_action e) ∙ has))
    by None None q p e = absurd (other (other_none (key keyword.ADD n ∷ ts)) e)
    by None (Some d) q p e =
        let same = some_action e in
        let column_same = inside (ap (λ (y : Action). y.column) same ∙ has) in
        record {
          column_is = p ∙ ap (λ (y : Column). Some y) column_same;
          free = q;
          is = sym same ∙ ap (λ (y : Column). action_in (key keyword.ADD n ∷ ts) a.AddColumn (record (add_state ts).kept { open_ended = true }) (Some y) []) column_same;
        }

-- What is known where w is in the place of the type of the column t, which this front comes before.
record Renamed (tree : Tree) (c : Column) (t : Terminal) (old front : List Terminal) (kept : Captures) (w : Terminal) (f : ℕ → ℕ) : Type 0 where
  pub symbol : IsTypeSymbol w.symbol
  pub fixed : f w.number ≡ w.number
  pub number : c.name ≡ t.number
  pub shown : t.symbol ≡ symbol_at tree t.number
  pub free : table_constraint (front ++ t ∷ old) ≡ None
  pub led : ((front ≡ []) × (kept ≡ fresh)) ⊎ BeginsNone front

-- It is a constraint of the table only if the column is named CONSTRAINT.
constraint_worded : (tree : Tree) (n : ℕ) (c : Column) (t : Terminal) (old front rest : List Terminal) (kept : Captures) (w : Terminal) (f : ℕ → ℕ) → Renamed tree c t old front kept w f →
    (ts us : List Terminal) (b : Action) → us ≡ front ++ t ∷ w ∷ rest → b ≡ action_in (key keyword.ADD n ∷ ts) a.AddColumn (record kept { open_ended = true }) (Some c) [] → f (last_of (key keyword.ADD n ∷ us)).number ≡ f (last_of (key keyword.ADD n ∷ ts)).number →
    (x : Constraint) → table_constraint us ≡ Some x → IsConstraint tree c w.number (action_moved f b) (action_moved f (adding (key keyword.ADD n ∷ us) x))
constraint_worded tree n c t old front rest kept w f h ts us b parts is last x e = by h.led
  where
    new : Constraint
    new = constraint_moved f x

    by : ((front ≡ []) × (kept ≡ fresh)) ⊎ BeginsNone front → IsConstraint tree c w.number (action_moved f b) (action_moved f (adding (key keyword.ADD n ∷ us) x))
    by (inr g) = absurd (no_some x (sym (ap table_constraint parts ∙ g.none (t ∷ w ∷ rest)) ∙ e))
    by (inl g) =
        let none = g.0 in
        let plain = g.1 in
        let named = constraint_named t w old rest x h.symbol (ap (λ (l : List Terminal). table_constraint (l ++ t ∷ old)) (sym none) ∙ h.free)
        (ap (λ (l : List Terminal). table_constraint (l ++ t ∷ w ∷ rest)) (sym none) ∙ ap table_constraint (sym parts) ∙ e) in
        let old_is : b ≡ action_in (key keyword.ADD n ∷ ts) a.AddColumn (record fresh { open_ended = true }) (Some c) [] =
        is ∙ ap (λ (k : Captures). action_in (key keyword.ADD n ∷ ts) a.AddColumn (record k { open_ended = true }) (Some c) []) plain in
        record {
          named = ap (symbol_at tree) h.number ∙ sym h.shown ∙ named.word;
          word = ap (λ (y : Action). option_map f y.word) old_is;
          guarded = ap (λ (y : Action). y.guarded) old_is;
          added = new;
          name = ap (option_map f) named.name ∙ ap (λ (m : ℕ). Some m) h.fixed;
          is = (λ i. record (action_moved f (adding (key keyword.ADD n ∷ us) x)) { last = last i })
              ∙ sym (ap (λ (y : Action). record (action_moved f y) { kind = a.AddConstraint; column = None; constraint = Some new }) old_is);
        }

-- the action with the word: that of the new column, or a constraint of the table
worded : (tree : Tree) (n : ℕ) (ts us : List Terminal) (b : Action) (c : Column) (kept : Captures) (w : Terminal) (f : ℕ → ℕ) (now : Column) → b ≡ action_in (key keyword.ADD n ∷ ts) a.AddColumn (record kept { open_ended = true }) (Some c) [] →
    (add_state us).kept ≡ kept → column (add_state us).left ≡ Some now → column_moved f now ≡ retyped_column w.number (column_moved f c) →
    f (last_of (key keyword.ADD n ∷ us)).number ≡ f (last_of (key keyword.ADD n ∷ ts)).number →
    ((x : Constraint) → table_constraint us ≡ Some x → IsConstraint tree c w.number (action_moved f b) (action_moved f (adding (key keyword.ADD n ∷ us) x))) →
    ActionReads f (IsRetyped tree c w.number (action_moved f b)) (key keyword.ADD n ∷ us)
worded tree n ts us b c kept w f now is same column_is moves last constraint = by (table_constraint us) refl (add_is n us ∙ (λ i. add_by (key keyword.ADD n ∷ us) (table_constraint us) (same i) (column_is i)))
  where
    new : Action
    new = action_in (key keyword.ADD n ∷ us) a.AddColumn (record kept { open_ended = true }) (Some now) []

    by : (x : Option Constraint) → table_constraint us ≡ x → action stmt.AlterTable (key keyword.ADD n ∷ us) ≡ add_by (key keyword.ADD n ∷ us) x kept (Some now) →
        ActionReads f (IsRetyped tree c w.number (action_moved f b)) (key keyword.ADD n ∷ us)
    by (Some x) p e = record { now = adding (key keyword.ADD n ∷ us) x; is = e; has = a_constraint (constraint x p) }
    by None p e = record {
      now = new;
      is = e;
      has = same_action ((λ i. record (action_moved f new) { last = last i; column = Some (moves i) }) ∙ sym (ap (λ (x : Action). retyped_action w.number (action_moved f x)) is));
    }

-- a place where the action is as the law says
abbrev AddPlace : Tree → List Terminal → Action → Column → ColType → Type 0
AddPlace tree here b c ty = TypePlace tree here ty (λ f n now. IsRetyped tree c n (action_moved f b) now)

add_from : (tree : Tree) (n : ℕ) (ts : List Terminal) (b : Action) (c : Column) (ty : ColType) → action stmt.AlterTable (key keyword.ADD n ∷ ts) ≡ Some b → b.column ≡ Some c → c.ty ≡ Some ty → is_replaced ty ≡ true → AddPlace tree (key keyword.ADD n ∷ ts) b c ty
add_from tree n ts b c ty e has typed replaced = let x = chosen n ts b c e has in by (add_state ts).left refl x.column_is x.free x.is
  where
    found : (t : Terminal) (us : List Terminal) → (add_state ts).left ≡ t ∷ us → column (t ∷ us) ≡ Some c → table_constraint ts ≡ None → b ≡ action_in (key keyword.ADD n ∷ ts) a.AddColumn (record (add_state ts).kept { open_ended = true }) (Some c) [] → AddPlace tree (key keyword.ADD n ∷ ts) b c ty
    found t us left read free is =
        let at = column_at t us c ty read typed replaced in
        let type = at.type in
        let tail : List Terminal = type.groups ++ type.rest in
        let us_is : us ≡ (type.r ∷ type.run) ++ tail = type.parts ∙ append_assoc (type.r ∷ type.run) type.groups type.rest in
        let g = add_front ts t type.r (type.run ++ tail) (left ∙ ap (λ (x : List Terminal). t ∷ x) us_is) in
        let front : List Terminal = g.front ++ t ∷ [] in
        let zs_is : key keyword.ADD n ∷ ts ≡ (key keyword.ADD n ∷ front) ++ ((type.r ∷ type.run) ++ tail) =
        ap (λ (x : List Terminal). key keyword.ADD n ∷ x) (g.parts ∙ sym (append_assoc g.front (t ∷ []) ((type.r ∷ type.run) ++ tail))) in
        let size = length-append g.front (t ∷ []) in
        record {
          first = key keyword.ADD n;
          front = front;
          r = type.r;
          run = type.run;
          groups = type.groups;
          rest = type.rest;
          parts = zs_is;
          long = omega (arith, size);
          flat = names_flat (key keyword.ADD n ∷ front) (and_from (is_name (key keyword.ADD n)) (list_all is_name front) (add_name n) (names_append g.front (t ∷ []) g.names (and_from (is_name t) true at.name refl)));
          named = ends_append (key keyword.ADD n ∷ g.front) t [] ∙ at.name;
          inner = type.inner;
          fine = type.fine;
          level = type.level;
          becomes = λ w f shown h end fuses.
              let now_is : key keyword.ADD n ∷ (g.front ++ t ∷ w ∷ tail) ≡ (key keyword.ADD n ∷ front) ++ w ∷ tail =
              ap (λ (x : List Terminal). key keyword.ADD n ∷ x) (sym (append_assoc g.front (t ∷ []) (w ∷ tail))) in
              let state = g.stays w tail (word_no_not w.symbol w.number h) in
              let last = ap (λ (x : List Terminal). f (last_of x).number) now_is ∙ last_number f (key keyword.ADD n ∷ front) type.r type.run tail w fuses.last ∙ ap (λ (x : List Terminal). f (last_of x).number) (sym zs_is) in
              let renamed : Renamed tree c t (type.r ∷ (type.run ++ tail)) g.front (add_state ts).kept w f = record {
                symbol = h;
                fixed = fuses.fixed;
                number = at.number;
                shown = shown.each (key keyword.ADD n ∷ g.front) t [] refl;
                free = ap table_constraint (sym g.parts) ∙ free;
                led = g.led;
              } in
              subst (ActionReads f (IsRetyped tree c w.number (action_moved f b))) now_is
              (worded tree n ts (g.front ++ t ∷ w ∷ tail) b c (add_state ts).kept w f (column_worded w type.groups ty c) is (ap (λ (x : State). x.kept) state) (ap (λ (x : State). column x.left) state ∙ at.becomes w h end)
              (column_moves f c ty w type.r type.run type.groups fuses typed type.whole) last
              (constraint_worded tree n c t (type.r ∷ (type.run ++ tail)) g.front tail (add_state ts).kept w f renamed ts (g.front ++ t ∷ w ∷ tail) b refl is last));
        }

    by : (l : List Terminal) → (add_state ts).left ≡ l → column (add_state ts).left ≡ Some c → table_constraint ts ≡ None → b ≡ action_in (key keyword.ADD n ∷ ts) a.AddColumn (record (add_state ts).kept { open_ended = true }) (Some c) [] → AddPlace tree (key keyword.ADD n ∷ ts) b c ty
    by [] p read free is = absurd (no_some c (sym (ap column p ∙ no_column) ∙ read))
    by (t ∷ us) p read free is = found t us p (ap column (sym p) ∙ read) free is

pub no_action : action stmt.AlterTable [] ≡ None
unfolding action
no_action = refl

add_at : (tree : Tree) (here : List Terminal) (b : Action) (c : Column) (ty : ColType) → action stmt.AlterTable here ≡ Some b → b.column ≡ Some c → c.ty ≡ Some ty → is_replaced ty ≡ true → AddPlace tree here b c ty
add_at tree [] b c ty e has typed replaced = absurd (no_some b (sym no_action ∙ e))
add_at tree (x ∷ ts) b c ty e has typed replaced = by (is_keyword_symbol keyword.ADD x.symbol) refl
  where
    by : (add : Bool) → is_keyword_symbol keyword.ADD x.symbol ≡ add → AddPlace tree (x ∷ ts) b c ty
    by false h = absurd (no_some c (sym (given_is NoColumn (action stmt.AlterTable (x ∷ ts)) b (others_none x ts h) e) ∙ has))
    by true h =
        let word = add_symbol x.symbol h in
        subst (λ (y : Symbol). AddPlace tree (record { symbol = y; number = x.number } ∷ ts) b c ty) word
        (add_from tree x.number ts b c ty (ap (λ (y : Symbol). action stmt.AlterTable (record { symbol = y; number = x.number } ∷ ts)) word ∙ e) has typed replaced)

-- ---- the law

pub added_type_reads : AddedTypeReads
added_type_reads tree before st after path earlier b later c ty w is parts kind body_is has typed replaced name apart short =
    runs_become tree before st after ty.inner.first ty.inner.last w _ is parts name apart short
    (λ us e. action_becomes tree st path earlier b later ty w (λ f n now. IsRetyped tree c n (action_moved f b) now) kind body_is name.symbol (λ here read. add_at tree here b c ty read has typed replaced) us e)
