-- The column types of a statement in which the inner tokens of one of them became a word.
use Rattle.std.proofs.Common.{◌≡◌, ℕ, Bool, true, false, cond, List, [], ◌∷◌, ◌++◌, map, append_assoc, append-nil, refl, Option, Some, None, sym, ap, ◌∙◌, subst}
use Rattle.std.proofs.Common.{rules}
use Rattle.std.proofs.lemmas.List.{map-append}
use Rattle.std.specs.List.{flat_map}
use Rattle.std.specs.Option.{option_and_then, option_map, option_to_list}
use denote.Enum.Bare.{same_true}
use Rattle.pass_data_type.specs.sql_token.declared.token.Span.{Span}
use Rattle.pass_data_type.specs.sql_token.Token.{Text}
use Rattle.pass_data_type.specs.sql_tree.contracts.kinds.PieceKind as piece_kinds
use Rattle.pass_data_type.specs.sql_tree.contracts.kinds.StmtKind as stmt_kinds
use Rattle.pass_data_type.specs.sql_tree.declared.kinds.ActionKind.TheVariants as action
use Rattle.pass_data_type.specs.sql_tree.declared.kinds.PieceKind.{PieceKind}
use Rattle.pass_data_type.specs.sql_tree.declared.kinds.PieceKind.TheVariants as piece
use Rattle.pass_data_type.specs.sql_tree.declared.kinds.StmtKind.{StmtKind}
use Rattle.pass_data_type.specs.sql_tree.declared.kinds.StmtKind.TheVariants as stmt
use Rattle.pass_data_type.specs.sql_tree.declared.nodes.Action.{Action}
use Rattle.pass_data_type.specs.sql_tree.declared.nodes.Body.{Body}
use Rattle.pass_data_type.specs.sql_tree.declared.nodes.Body.TheVariants as body
use Rattle.pass_data_type.specs.sql_tree.declared.nodes.ColType.{ColType}
use Rattle.pass_data_type.specs.sql_tree.declared.nodes.Column.{Column}
use Rattle.pass_data_type.specs.sql_tree.declared.nodes.Elem.{Elem}
use Rattle.pass_data_type.specs.sql_tree.declared.nodes.Elem.TheVariants as elem
use Rattle.pass_data_type.specs.sql_tree.declared.nodes.Piece.{Piece}
use Rattle.pass_data_type.specs.sql_tree.declared.nodes.Stmt.{Stmt}
use Rattle.pass_data_type.specs.sql_tree.Nodes.{actions_in, elements_in}
use Rattle.pass_data_type.specs.sql_tree.Statement.{Tree}
use Rattle.law_edit_types.specs.law_renumber.Moved.{span_moved, type_moved, column_moved, elem_moved, piece_moved, action_moved, stmt_moved}
use Rattle.law_edit_types.specs.Runs.{fused, Worded}
use Rattle.law_edit_types.specs.Types.{retyped_type, retyped_column}
use Rattle.law_edit_types.specs.Altered.{ActionNow, IsConstraint, IsRetyped, retyped_action, retyped_in}
use Rattle.law_edit_types.specs.Altered.IsRetyped.{column, constraint}
use Rattle.law_edit_types.specs.Created.{TableHead, table_of, retyped_table}
use Rattle.law_edit_types.proofs.Added.{added_type_reads}
use Rattle.law_edit_types.proofs.Altered.{set_type_reads}
use Rattle.law_edit_types.proofs.Created.{created_type_reads}
use Rattle.pass_data_type.specs.lint_node.ColumnTypes.{element_type, added_type, set_type, element_types, piece_types, action_types, column_types}
use Rattle.pass_data_type.specs.lint_node.Same.{same_action, same_kind, same_piece}
use Rattle.law_type_fixes.specs.Words.{AddsConstraint, AreWord, InnersBecomeWords, TypesNow, WordNow}
use Rattle.law_type_fixes.specs.Words.AreWord.{path as named, none as gone}
use Rattle.law_type_fixes.proofs.ColumnTypes.{element_moved, piece_types_moved, added_type_moved, action_types_moved}
use Rattle.law_type_fixes.proofs.Homes.{Half, half, Home, home, home_moved, only}
use Rattle.law_type_fixes.proofs.Homes.Half.{left, right}

-- ---- the two statements that have column types

pub kind_is : (x y : StmtKind) → same_kind x y ≡ true → x ≡ y
unfolding same_kind
kind_is x y h = same_true stmt_kinds.the_type (search rules) x y h

pub piece_is : (x y : PieceKind) → same_piece x y ≡ true → x ≡ y
unfolding same_piece
piece_is x y h = same_true piece_kinds.the_type (search rules) x y h

pub made_types : (s : Stmt) → s.kind ≡ stmt.CreateTable → column_types s ≡ element_types (elements_in s.body)
unfolding column_types same_kind
made_types s e =
    (λ i. element_types (cond (same_kind (e i) stmt.CreateTable) (elements_in s.body) []) ++ flat_map action_types (cond (same_kind (e i) stmt.AlterTable) (actions_in s.body) []))
    ∙ append-nil (element_types (elements_in s.body))

pub altered_types : (s : Stmt) → s.kind ≡ stmt.AlterTable → column_types s ≡ flat_map action_types (actions_in s.body)
unfolding column_types same_kind
altered_types s e =
    λ i. element_types (cond (same_kind (e i) stmt.CreateTable) (elements_in s.body) []) ++ flat_map action_types (cond (same_kind (e i) stmt.AlterTable) (actions_in s.body) [])

pub other_types : (s : Stmt) → same_kind s.kind stmt.CreateTable ≡ false → same_kind s.kind stmt.AlterTable ≡ false → column_types s ≡ []
unfolding column_types
other_types s p q = λ i. element_types (cond (p i) (elements_in s.body) []) ++ flat_map action_types (cond (q i) (actions_in s.body) [])

pub none_of : (earlier : List ColType) (ty : ColType) (later : List ColType) → [] ≡ earlier ++ ty ∷ later → ⊥
none_of [] ty later e = cc
none_of (x ∷ earlier) ty later e = cc

-- the body of a statement with elements, or with actions
pub table_body : (b : Body) (front : List Elem) (e : Elem) (back : List Elem) → elements_in b ≡ front ++ e ∷ back → (head : TableHead) × (b ≡ table_of head (front ++ e ∷ back))
table_body (body.Table temp guarded on_commit_drop word path elems) front e back h =
    (record { temp = temp; guarded = guarded; on_commit_drop = on_commit_drop; word = word; path = path }, ap (λ (l : List Elem). body.Table temp guarded on_commit_drop word path l) h)
table_body b front e back h = absurd (empty front e back h)
  where
    empty : (front : List Elem) (e : Elem) (back : List Elem) → [] ≡ front ++ e ∷ back → ⊥
    empty [] e back h = cc
    empty (x ∷ front) e back h = cc

pub alter_body : (b : Body) (front : List Action) (x : Action) (back : List Action) → actions_in b ≡ front ++ x ∷ back → (path : Option Span) × (b ≡ body.Alter path (front ++ x ∷ back))
alter_body (body.Alter path actions) front x back h = (path, ap (λ (l : List Action). body.Alter path l) h)
alter_body b front x back h = absurd (empty front x back h)
  where
    empty : (front : List Action) (x : Action) (back : List Action) → [] ≡ front ++ x ∷ back → ⊥
    empty [] x back h = cc
    empty (y ∷ front) x back h = cc

-- ---- what has the type

pub record Listed (e : Elem) (ty : ColType) : Type 0 where
  pub column : Column
  pub is : e ≡ elem.Column column
  pub ty_is : column.ty ≡ Some ty

pub listed : (e : Elem) (ty : ColType) → element_type e ≡ Some ty → Listed e ty
listed (elem.Column c) ty h = record { column = c; is = refl; ty_is = h }
listed (elem.Constraint c) ty h = cc
listed elem.Like ty h = cc
listed elem.Other ty h = cc

pub record Adds (b : Action) (ty : ColType) : Type 0 where
  pub column : Column
  pub kind : same_action b.kind action.AddColumn ≡ true
  pub is : b.column ≡ Some column
  pub ty_is : column.ty ≡ Some ty

pub adds : (b : Action) (ty : ColType) → added_type b ≡ Some ty → Adds b ty
adds b ty h = by (same_action b.kind action.AddColumn) b.column refl refl h
  where
    by : (x : Bool) (o : Option Column) → same_action b.kind action.AddColumn ≡ x → b.column ≡ o → option_and_then (λ c. c.ty) (cond x o None) ≡ Some ty → Adds b ty
    by true None p q h = cc
    by true (Some c) p q h = record { column = c; kind = p; is = q; ty_is = h }
    by false o p q h = cc

pub record Sets (p : Piece) (ty : ColType) : Type 0 where
  pub kind : same_piece p.kind piece.SetType ≡ true
  pub ty_is : p.ty ≡ Some ty

pub sets : (p : Piece) (ty : ColType) → set_type p ≡ Some ty → Sets p ty
sets p ty h = by (same_piece p.kind piece.SetType) refl h
  where
    by : (x : Bool) → same_piece p.kind piece.SetType ≡ x → cond x p.ty None ≡ Some ty → Sets p ty
    by true e h = record { kind = e; ty_is = h }
    by false e h = cc

-- ---- the new lists

retyped_is : (n : ℕ) (f : ℕ → ℕ) (o : Option ColType) (ty : ColType) → o ≡ Some ty → option_map (retyped_type n) (option_map (type_moved f) o) ≡ Some (retyped_type n (type_moved f ty))
retyped_is n f o ty e = ap (λ (x : Option ColType). option_map (retyped_type n) (option_map (type_moved f) x)) e

is_word : (n : ℕ) (f : ℕ → ℕ) (ty : ColType) (Gone : Type 0) → AreWord n Gone (retyped_type n (type_moved f ty) ∷ [])
is_word n f ty Gone = named (retyped_type n (type_moved f ty)) refl refl refl refl

-- a list with one type, where another is in its place
one_new : (f : ℕ → ℕ) (pre post new : List ColType) → pre ≡ [] → post ≡ [] → new ≡ map (type_moved f) pre ++ (new ++ map (type_moved f) post)
one_new f pre post new p q = sym (append-nil new) ∙ (λ i. map (type_moved f) (sym p i) ++ (new ++ map (type_moved f) (sym q i)))

-- the types that a statement has in place of its old ones
record New (n : ℕ) (f : ℕ → ℕ) (Gone : Type 0) (pre post types : List ColType) : Type 0 where
  pub new : List ColType
  pub are : AreWord n Gone new
  pub is : types ≡ map (type_moved f) pre ++ (new ++ map (type_moved f) post)

-- ---- ADD COLUMN

column_list : (n : ℕ) (f : ℕ → ℕ) (b : Action) (ty : ColType) → Adds b ty → option_to_list (added_type (retyped_action n (action_moved f b))) ≡ retyped_type n (type_moved f ty) ∷ []
column_list n f b ty h =
    (let p = h.kind in let q = h.is in λ i. option_to_list (option_and_then (λ c. c.ty) (cond (p i) (option_map (retyped_column n) (option_map (column_moved f) (q i))) None)))
    ∙ ap option_to_list (retyped_is n f h.column.ty ty h.ty_is)

constraint_list : (b : Action) → b.column ≡ None → option_to_list (added_type b) ≡ []
constraint_list b e = by (same_action b.kind action.AddColumn) b.column e
  where
    by : (x : Bool) (o : Option Column) → o ≡ None → option_to_list (option_and_then (λ c. c.ty) (cond x o None)) ≡ []
    by true o e = ap (λ (y : Option Column). option_to_list (option_and_then (λ c. c.ty) y)) e
    by false o e = refl

added_list : (tree : Tree) (c : Column) (n : ℕ) (f : ℕ → ℕ) (b now : Action) (ty : ColType) (pre more post : List ColType) → Adds b ty → pre ≡ [] → more ≡ [] → post ≡ more ++ piece_types b.pieces →
    IsRetyped tree c n (action_moved f b) now → New n f (IsConstraint tree c n (action_moved f b) now) pre post (action_types now)
added_list tree c n f b now ty pre more post h p q r (column is) = record {
  new = retyped_type n (type_moved f ty) ∷ [];
  are = is_word n f ty (IsConstraint tree c n (action_moved f b) now);
  is = ap action_types is
      ∙ (let x = column_list n f b ty h in let y = piece_types_moved f b.pieces in λ i. x i ++ y i)
      ∙ (λ i. map (type_moved f) (sym p i) ++ ((retyped_type n (type_moved f ty) ∷ []) ++ map (type_moved f) (sym r' i)));
}
  where
    r' : post ≡ piece_types b.pieces
    r' = r ∙ ap (λ (l : List ColType). l ++ piece_types b.pieces) q
added_list tree c n f b now ty pre more post h p q r (constraint adds) = record {
  new = [];
  are = gone refl adds;
  is = (let x = constraint_list now (ap (λ (y : Action). y.column) adds.is) in let y = ap (λ (y : Action). piece_types y.pieces) adds.is ∙ piece_types_moved f b.pieces in λ i. x i ++ y i)
      ∙ (λ i. map (type_moved f) (sym p i) ++ map (type_moved f) (sym r' i));
}
  where
    r' : post ≡ piece_types b.pieces
    r' = r ∙ ap (λ (l : List ColType). l ++ piece_types b.pieces) q

-- ---- SET TYPE

set_list : (n : ℕ) (f : ℕ → ℕ) (p : Piece) (ty : ColType) → Sets p ty → (now : Piece) → now.kind ≡ p.kind → now.ty ≡ option_map (retyped_type n) (option_map (type_moved f) p.ty) →
    option_to_list (set_type now) ≡ retyped_type n (type_moved f ty) ∷ []
set_list n f p ty h now kind type =
    (let a = ap (λ (k : PieceKind). same_piece k piece.SetType) kind ∙ h.kind in let b = type ∙ retyped_is n f p.ty ty h.ty_is in λ i. option_to_list (cond (a i) (b i) None))

pieces_list : (n : ℕ) (f : ℕ → ℕ) (Gone : Type 0) (b : Action) (ty : ColType) (pre more post : List ColType) (h : Home (λ p. option_to_list (set_type p)) b.pieces more ty post) → Sets h.node ty →
    h.pre ≡ [] → h.post ≡ [] → pre ≡ option_to_list (added_type b) ++ more → New n f Gone pre post (action_types (retyped_in f n b h.front h.node h.back))
pieces_list n f Gone b ty pre more post h is p q r = record {
  new = retyped_type n (type_moved f ty) ∷ [];
  are = is_word n f ty Gone;
  is = (let x = added_type_moved f b in let y = pieces in λ i. x i ++ y i)
      ∙ sym (append_assoc (map (type_moved f) (option_to_list (added_type b))) (map (type_moved f) more) ((retyped_type n (type_moved f ty) ∷ []) ++ map (type_moved f) post))
      ∙ ap (λ (l : List ColType). l ++ ((retyped_type n (type_moved f ty) ∷ []) ++ map (type_moved f) post)) (sym (map-append (type_moved f) (option_to_list (added_type b)) more) ∙ ap (λ (l : List ColType). map (type_moved f) l) (sym r));
}
  where
    one_piece : (x : Piece) → option_to_list (set_type (piece_moved f x)) ≡ map (type_moved f) (option_to_list (set_type x))
    one_piece x = sym (append-nil _) ∙ piece_types_moved f (x ∷ []) ∙ ap (λ (l : List ColType). map (type_moved f) l) (append-nil (option_to_list (set_type x)))

    pieces : piece_types (map (piece_moved f) h.front ++ record (piece_moved f h.node) { ty = option_map (retyped_type n) (option_map (type_moved f) h.node.ty) } ∷ map (piece_moved f) h.back)
        ≡ map (type_moved f) more ++ ((retyped_type n (type_moved f ty) ∷ []) ++ map (type_moved f) post)
    pieces =
        home_moved f (λ p. option_to_list (set_type p)) (piece_moved f) one_piece b.pieces more ty post h
        (record (piece_moved f h.node) { ty = option_map (retyped_type n) (option_map (type_moved f) h.node.ty) }) (retyped_type n (type_moved f ty) ∷ [])
        (set_list n f h.node ty is (record (piece_moved f h.node) { ty = option_map (retyped_type n) (option_map (type_moved f) h.node.ty) }) refl refl
        ∙ one_new f h.pre h.post (retyped_type n (type_moved f ty) ∷ []) p q)

-- ---- the three homes

with_types : {tree : Tree} {n m : ℕ} {w : Text} {before after : List Stmt} (P Q : Stmt → Type 0) → ((now : Stmt) → P now → Q now) → Worded tree n m w before P after → Worded tree n m w before Q after
with_types P Q h x = record { now = x.now; has = h x.now x.has; is = x.is; terms = x.terms }

-- why a type is gone from the statement, where one action has it
gone_now : (n : ℕ) (Gone Why : Type 0) (types : List ColType) → (Gone → Why) → AreWord n Gone types → AreWord n Why types
gone_now n Gone Why types h (named ty is kind name args) = named ty is kind name args
gone_now n Gone Why types h (gone is why) = gone is (h why)

-- the statement with one other action
action_now : (f : ℕ → ℕ) (st : Stmt) (path : Option Span) (n : ℕ) (ty : ColType) (earlier later : List ColType) (h : Home action_types (actions_in st.body) earlier ty later) (Is Gone : Action → Type 0) (Why : Stmt → Type 0) → st.kind ≡ stmt.AlterTable →
    ((now : Action) → Is now → New n f (Gone now) h.pre h.post (action_types now)) → ((now : Stmt) → ActionNow f st path h.front Gone h.back now → Why now) →
    (now : Stmt) → ActionNow f st path h.front Is h.back now → TypesNow f earlier (λ now types. AreWord n (Why now) types) later now
action_now f st path n ty earlier later h Is Gone Why kind each why now new =
    let types = each new.action new.has in
    record {
      types = types.new;
      are = gone_now n (Gone new.action) (Why now) types.new (λ g. why now (record { action = new.action; has = g; is = new.is })) types.are;
      is = ap column_types new.is
          ∙ altered_types (record (stmt_moved f st) { body = body.Alter (option_map (span_moved f) path) (map (action_moved f) h.front ++ new.action ∷ map (action_moved f) h.back) }) kind
          ∙ home_moved f action_types (action_moved f) (action_types_moved f) (actions_in st.body) earlier ty later h new.action types.new types.is;
    }

table_now : (n : ℕ) (f : ℕ → ℕ) (Why : Stmt → Type 0) (st : Stmt) (head : TableHead) (c : Column) (ty : ColType) (earlier later : List ColType) (h : Home (λ e. option_to_list (element_type e)) (elements_in st.body) earlier ty later) →
    st.kind ≡ stmt.CreateTable → c.ty ≡ Some ty → h.pre ≡ [] → h.post ≡ [] → (now : Stmt) → now ≡ retyped_table f n st head h.front c h.back → TypesNow f earlier (λ now types. AreWord n (Why now) types) later now
table_now n f Why st head c ty earlier later h kind type p q now new = record {
  types = retyped_type n (type_moved f ty) ∷ [];
  are = is_word n f ty (Why now);
  is = ap column_types new
      ∙ made_types (retyped_table f n st head h.front c h.back) kind
      ∙ home_moved f (λ e. option_to_list (element_type e)) (elem_moved f) (element_moved f) (elements_in st.body) earlier ty later h
      (elem.Column (retyped_column n (column_moved f c))) (retyped_type n (type_moved f ty) ∷ [])
      (ap option_to_list (retyped_is n f c.ty ty type) ∙ one_new f h.pre h.post (retyped_type n (type_moved f ty) ∷ []) p q);
}

pub inners_become_words : InnersBecomeWords
inners_become_words tree before st after earlier ty later w is parts cut replaced name apart short =
    by (same_kind st.kind stmt.CreateTable) (same_kind st.kind stmt.AlterTable) refl refl
  where
    n : ℕ
    n = ty.inner.first

    f : ℕ → ℕ
    f = fused ty.inner.first ty.inner.last

    Why : Stmt → Type 0
    Why now = AddsConstraint tree st ty now

    Result : Type 0
    Result = Worded tree ty.inner.first ty.inner.last w before (WordNow tree st earlier ty later) after

    made : st.kind ≡ stmt.CreateTable → Home (λ e. option_to_list (element_type e)) (elements_in st.body) earlier ty later → Result
    made kind h =
        let o = only (element_type h.node) h.pre ty h.post h.here in
        let c = listed h.node ty o.is in
        let b = table_body st.body h.front h.node h.back h.parts in
        with_types (λ now. now ≡ retyped_table f n st b.0 h.front c.column h.back) (WordNow tree st earlier ty later)
        (table_now n f Why st b.0 c.column ty earlier later h kind c.ty_is o.pre_is o.post_is)
        (created_type_reads tree before st after b.0 h.front c.column h.back ty w is parts kind
        (b.1 ∙ ap (λ (x : Elem). table_of b.0 (h.front ++ x ∷ h.back)) c.is) c.ty_is replaced name apart short)

    altered : st.kind ≡ stmt.AlterTable → Home action_types (actions_in st.body) earlier ty later → Result
    altered kind h = by_part (half (option_to_list (added_type h.node)) (piece_types h.node.pieces) h.pre ty h.post h.here)
      where
        b : (path : Option Span) × (st.body ≡ body.Alter path (h.front ++ h.node ∷ h.back))
        b = alter_body st.body h.front h.node h.back h.parts

        never : (now : Stmt) → ActionNow f st b.0 h.front (λ x. ⊥) h.back now → Why now
        never now x = absurd x.has

        set : (more : List ColType) → h.pre ≡ option_to_list (added_type h.node) ++ more → Home (λ p. option_to_list (set_type p)) h.node.pieces more ty h.post → Result
        set more r g =
            let o = only (set_type g.node) g.pre ty g.post g.here in
            let s = sets g.node ty o.is in
            with_types (ActionNow f st b.0 h.front (λ now. now ≡ retyped_in f n h.node g.front g.node g.back) h.back) (WordNow tree st earlier ty later)
            (action_now f st b.0 n ty earlier later h (λ now. now ≡ retyped_in f n h.node g.front g.node g.back) (λ x. ⊥) Why kind
            (λ now e. subst (λ (x : Action). New n f ⊥ h.pre h.post (action_types x)) (sym e) (pieces_list n f ⊥ h.node ty h.pre more h.post g s o.pre_is o.post_is r)) never)
            (set_type_reads tree before st after b.0 h.front h.node h.back g.front g.node g.back ty w is parts kind b.1 g.parts (piece_is g.node.kind piece.SetType s.kind) s.ty_is replaced name apart short)

        by_part : Half (option_to_list (added_type h.node)) (piece_types h.node.pieces) h.pre ty h.post → Result
        by_part (left more p q) =
            let o = only (added_type h.node) h.pre ty more p in
            let c = adds h.node ty o.is in
            with_types (ActionNow f st b.0 h.front (IsRetyped tree c.column n (action_moved f h.node)) h.back) (WordNow tree st earlier ty later)
            (action_now f st b.0 n ty earlier later h (IsRetyped tree c.column n (action_moved f h.node)) (IsConstraint tree c.column n (action_moved f h.node)) Why kind
            (λ now new. added_list tree c.column n f h.node now ty h.pre more h.post c o.pre_is o.post_is q new)
            (λ now new. record {
              path = b.0;
              earlier = h.front;
              adds = h.node;
              later = h.back;
              column = c.column;
              kind = kind;
              actions = b.1;
              has = c.is;
              typed = c.ty_is;
              is = new;
            }))
            (added_type_reads tree before st after b.0 h.front h.node h.back c.column ty w is parts kind b.1 c.is c.ty_is replaced name apart short)
        by_part (right more p q) = set more p (home (λ x. option_to_list (set_type x)) h.node.pieces more ty h.post q)

    by : (x y : Bool) → same_kind st.kind stmt.CreateTable ≡ x → same_kind st.kind stmt.AlterTable ≡ y → Result
    by true y p q =
        let kind = kind_is st.kind stmt.CreateTable p in
        made kind (home (λ e. option_to_list (element_type e)) (elements_in st.body) earlier ty later (sym (made_types st kind) ∙ cut))
    by false true p q =
        let kind = kind_is st.kind stmt.AlterTable q in
        altered kind (home action_types (actions_in st.body) earlier ty later (sym (altered_types st kind) ∙ cut))
    by false false p q = absurd (none_of earlier ty later (sym (other_types st p q) ∙ cut))
