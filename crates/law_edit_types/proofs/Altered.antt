-- The type that an ALTER TABLE sets becomes one word.
use Rattle.std.proofs.Common.{◌≡◌, inl, inr, ℕ, Bool, true, false, List, [], ◌∷◌, ◌++◌, map, take, get_or, append_assoc, length-append, sym, refl, ap, ◌∙◌, subst, arith, Option, Some, None}
use Rattle.std.proofs.lemmas.Bool.{false≢true, and_from}
use Rattle.std.specs.Prelude.{◌&&◌}
use Rattle.std.specs.List.{list_all}
use Rattle.std.specs.Option.{option_map}
use Rattle.law_edit_inserts.specs.sql_keyword.declared.words.TheConstants.Keyword as keyword
use Rattle.law_edit_inserts.specs.sql_token.declared.terminal.Symbol.{Symbol}
use Rattle.law_edit_inserts.specs.sql_token.declared.terminal.Terminal.{Terminal}
use Rattle.law_edit_inserts.specs.sql_token.Terminal.{is_keyword_symbol, is_name}
use Rattle.law_edit_inserts.specs.sql_token.Depth.{span_of, nothing}
use Rattle.law_edit_inserts.specs.sql_tree.declared.forms.Captures.{Captures}
use Rattle.law_edit_inserts.specs.sql_tree.declared.kinds.ActionKind.TheVariants as a
use Rattle.law_edit_inserts.specs.sql_tree.declared.kinds.PieceKind.TheVariants as piece
use Rattle.law_edit_inserts.specs.sql_tree.declared.kinds.StmtKind.TheVariants as stmt
use Rattle.law_edit_inserts.specs.sql_tree.declared.nodes.Action.{Action}
use Rattle.law_edit_inserts.specs.sql_tree.declared.nodes.ColType.{ColType}
use Rattle.law_edit_inserts.specs.sql_tree.declared.nodes.Piece.{Piece}
use Rattle.law_edit_inserts.specs.sql_tree.ActionPieces.{type_in, is_always, piece_in, column_option}
use Rattle.law_edit_inserts.specs.sql_tree.ColumnType.{type_len, column_type}
use Rattle.law_edit_inserts.specs.sql_tree.Forms.{opened}
use Rattle.law_edit_inserts.specs.sql_tree.Action.{action, action_in, unlisted_action}
use Rattle.law_edit_inserts.specs.sql_tree.Statement.{Tree, last_of}
use Rattle.law_edit_inserts.specs.law_renumber.Moved.{action_moved, piece_moved, type_moved}
use Rattle.law_edit_inserts.specs.Concurrently.{key}
use Rattle.law_edit_inserts.proofs.Leading.{Given, given_is}
use Rattle.law_edit_types.specs.Types.{is_replaced, retyped_type, retyped_piece}
use Rattle.law_edit_types.specs.Altered.{retyped_in, SetTypeReads}
use Rattle.law_edit_types.proofs.Actions.{ActionReads, TypePlace, action_becomes}
use Rattle.law_edit_types.proofs.Altering.{NoPieceType, others_none, other_none, alter_symbol, column_action, AlterFront, alter_shows}
use Rattle.law_edit_types.proofs.Counts.{names_flat, names_append, names_end}
use Rattle.law_edit_types.proofs.Runs.{runs_become}
use Rattle.law_edit_types.proofs.SetTypes.{no_type_kind, no_type, SetTypeAt, Shows, option_shows}
use Rattle.law_edit_types.proofs.TypePlaces.{type_at, type_reads, last_number, type_moves}
use Rattle.law_edit_types.proofs.Added.{some_action, no_action}

-- ---- the pieces

pub has_type : (first : List Piece) (p : Piece) (others : List Piece) → p.kind ≡ piece.SetType → no_type (first ++ p ∷ others) ≡ false
has_type [] p others h = λ i. no_type_kind (h i) && no_type others
has_type (x ∷ first) p others h = (λ i. no_type_kind x.kind && has_type first p others h i) ∙ none (no_type_kind x.kind)
  where
    none : (b : Bool) → (b && false) ≡ false
    none true = refl
    none false = refl

-- the only piece is the one that gives the type
pub record Only (x : Piece) (first : List Piece) (p : Piece) (others : List Piece) : Type 0 where
  pub first_none : first ≡ []
  pub same : p ≡ x
  pub others_none : others ≡ []

pub only : (x : Piece) (first : List Piece) (p : Piece) (others : List Piece) → first ++ p ∷ others ≡ x ∷ [] → Only x first p others
only x [] p others e = record { first_none = refl; same = head e; others_none = rest e }
  where
    head : {x y : Piece} {us vs : List Piece} → x ∷ us ≡ y ∷ vs → x ≡ y
    head e = cc

    rest : {x y : Piece} {us vs : List Piece} → x ∷ us ≡ y ∷ vs → us ≡ vs
    rest e = cc
only x (y ∷ first) p others e = absurd (none first (rest e))
  where
    rest : {x y : Piece} {us vs : List Piece} → x ∷ us ≡ y ∷ vs → us ≡ vs
    rest e = cc

    none : (first : List Piece) → first ++ p ∷ others ≡ [] → ⊥
    none [] e = cc
    none (z ∷ first) e = cc

-- ---- what the action is read of

-- an ALTER COLUMN whose option gives the type
pub record SetShape (zs : List Terminal) (b : Action) : Type 0 where
  pub n : ℕ
  pub front : List Terminal
  pub kept : Captures
  pub left : List Terminal
  pub option : List Terminal
  pub set : SetTypeAt option left
  pub parts : zs ≡ key keyword.ALTER n ∷ (front ++ option)
  pub names : list_all is_name front ≡ true
  pub is : b ≡ action_in zs a.AlterColumn (opened kept) None (piece_in option piece.SetType left ∷ [])
  pub reads : (vs : List Terminal) → action stmt.AlterTable (key keyword.ALTER n ∷ (front ++ set.first ∷ vs)) ≡ column_action (key keyword.ALTER n ∷ (front ++ set.first ∷ vs)) kept (column_option (set.first ∷ vs))

first_of : {x y : Terminal} {us vs : List Terminal} → x ∷ us ≡ y ∷ vs → x ≡ y
first_of e = cc

shape_from : (n : ℕ) (ts : List Terminal) (b : Action) → action stmt.AlterTable (key keyword.ALTER n ∷ ts) ≡ Some b → no_type b.pieces ≡ false → AlterFront n ts → SetShape (key keyword.ALTER n ∷ ts) b
shape_from n ts b e some f = by (column_option (f.u ∷ f.us)) (option_shows (f.u ∷ f.us)) read
  where
    zs : List Terminal
    zs = key keyword.ALTER n ∷ ts

    read : column_action zs f.kept (column_option (f.u ∷ f.us)) ≡ Some b
    read =
        let parts = f.parts in
        ap (λ (l : List Terminal). column_action (key keyword.ALTER n ∷ l) f.kept (column_option (f.u ∷ f.us))) parts
        ∙ sym (f.reads f.us)
        ∙ ap (λ (l : List Terminal). action stmt.AlterTable (key keyword.ALTER n ∷ l)) (sym parts)
        ∙ e

    by : (o : Option (List Piece)) → Given (Shows (f.u ∷ f.us)) o → column_action zs f.kept o ≡ Some b → SetShape zs b
    by None g h = absurd (false≢true (sym some ∙ given_is NoPieceType (unlisted_action stmt.AlterTable zs) b (other_none zs) h))
    by (Some pieces) g h =
        let same = some_action h in
        let shown = g (ap (λ (x : Action). no_type x.pieces) same ∙ some) in
        let head = first_of shown.at.parts in
        record {
          n = n;
          front = f.front;
          kept = f.kept;
          left = shown.left;
          option = f.u ∷ f.us;
          set = shown.at;
          parts = ap (λ (l : List Terminal). key keyword.ALTER n ∷ l) f.parts;
          names = f.names;
          is = sym same ∙ ap (λ (x : List Piece). action_in zs a.AlterColumn (opened f.kept) None x) shown.is;
          reads = λ vs. subst (λ (x : Terminal). action stmt.AlterTable (key keyword.ALTER n ∷ (f.front ++ x ∷ vs)) ≡ column_action (key keyword.ALTER n ∷ (f.front ++ x ∷ vs)) f.kept (column_option (x ∷ vs))) head (f.reads vs);
        }

none_some : (b : Action) → None ≡ Some b → ⊥
none_some b e = cc

pub set_shape : (zs : List Terminal) (b : Action) → action stmt.AlterTable zs ≡ Some b → no_type b.pieces ≡ false → SetShape zs b
set_shape [] b e some = absurd (none_some b (sym no_action ∙ e))
set_shape (x ∷ ts) b e some = by (is_keyword_symbol keyword.ALTER x.symbol) refl
  where
    none : Given NoPieceType (action stmt.AlterTable (x ∷ ts)) → ⊥
    none g = false≢true (sym some ∙ given_is NoPieceType (action stmt.AlterTable (x ∷ ts)) b g e)

    by : (alter : Bool) → is_keyword_symbol keyword.ALTER x.symbol ≡ alter → SetShape (x ∷ ts) b
    by false h = absurd (none (others_none x ts h))
    by true h =
        let word : key keyword.ALTER x.number ≡ x = ap (λ (y : Symbol). record { symbol = y; number = x.number }) (alter_symbol x.symbol h) in
        elim (alter_shows x.number ts) [
          | inl f ↦ subst (λ (y : Terminal). SetShape (y ∷ ts) b) word (shape_from x.number ts b (ap (λ (y : Terminal). action stmt.AlterTable (y ∷ ts)) word ∙ e) some f)
          | inr g ↦ absurd (none (subst (λ (y : Terminal). Given NoPieceType (action stmt.AlterTable (y ∷ ts))) word g))
        ]

-- ---- the action with the word

pub typed_by : (ts left : List Terminal) → (piece_in ts piece.SetType left).ty ≡ column_type (take (type_len left) left)
unfolding type_in
typed_by ts left = refl

-- the piece with the word, under its new numbers
piece_moves : (f : ℕ → ℕ) (n : ℕ) (option now left rest : List Terminal) (ty type : ColType) → (piece_in option piece.SetType left).ty ≡ Some ty → (piece_in now piece.SetType rest).ty ≡ Some type → type_moved f type ≡ retyped_type n (type_moved f ty) →
    f (get_or now 0 nothing).number ≡ f (get_or option 0 nothing).number → f (last_of now).number ≡ f (last_of option).number → piece_moved f (piece_in now piece.SetType rest) ≡ retyped_piece n (piece_moved f (piece_in option piece.SetType left))
unfolding is_always
piece_moves f n option now left rest ty type typed worded moves first last =
    let same : option_map (type_moved f) (piece_in now piece.SetType rest).ty ≡ option_map (retyped_type n) (option_map (type_moved f) (piece_in option piece.SetType left).ty) =
    ap (λ (x : Option ColType). option_map (type_moved f) x) worded ∙ ap (λ (x : ColType). Some x) moves ∙ ap (λ (x : Option ColType). option_map (retyped_type n) (option_map (type_moved f) x)) (sym typed) in
    λ i. record (piece_moved f (piece_in now piece.SetType rest)) { first = first i; last = last i; ty = same i }

-- the action with it
action_moves : (f : ℕ → ℕ) (n : ℕ) (zs us : List Terminal) (kept : Captures) (old new : Piece) (b : Action) (first : List Piece) (p : Piece) (others : List Piece) → Only old first p others →
    b ≡ action_in zs a.AlterColumn (opened kept) None (old ∷ []) → piece_moved f new ≡ retyped_piece n (piece_moved f old) → f (get_or us 0 nothing).number ≡ f (get_or zs 0 nothing).number → f (last_of us).number ≡ f (last_of zs).number →
    action_moved f (action_in us a.AlterColumn (opened kept) None (new ∷ [])) ≡ retyped_in f n b first p others
action_moves f n zs us kept old new b first p others only is moves start end =
    let front = only.first_none in let same = only.same in let back = only.others_none in
    (λ i. record (action_moved f (action_in us a.AlterColumn (opened kept) None (new ∷ []))) { first = start i; last = end i; pieces = moves i ∷ [] })
    ∙ (λ i. record (action_moved f (sym is i)) { pieces = retyped_piece n (piece_moved f old) ∷ [] })
    ∙ (λ i. record (action_moved f b) { pieces = map (piece_moved f) (sym front i) ++ retyped_piece n (piece_moved f (sym same i)) ∷ map (piece_moved f) (sym back i) })

alter_name : (n : ℕ) → is_name (key keyword.ALTER n) ≡ true
unfolding is_name
alter_name n = refl

module _ (tree : Tree) (first : List Piece) (p : Piece) (others : List Piece) (ty : ColType) where
  abbrev SetPlace : List Terminal → Action → Type 0
  SetPlace zs b = TypePlace tree zs ty (λ f n now. now ≡ retyped_in f n b first p others)

  set_at : (zs : List Terminal) (b : Action) → action stmt.AlterTable zs ≡ Some b → b.pieces ≡ first ++ p ∷ others → p.kind ≡ piece.SetType → p.ty ≡ Some ty → is_replaced ty ≡ true → SetPlace zs b
  set_at zs b e has kind typed replaced =
      let shape = set_shape zs b e (ap no_type has ∙ has_type first p others kind) in
      let set = shape.set in
      let old : Piece = piece_in shape.option piece.SetType shape.left in
      let alone = only old first p others (sym has ∙ ap (λ (x : Action). x.pieces) shape.is) in
      let at = type_at shape.left ty (sym (typed_by shape.option shape.left) ∙ ap (λ (x : Piece). x.ty) (sym alone.same) ∙ typed) replaced in
      let lead : List Terminal = set.first ∷ set.lead in
      let front : List Terminal = shape.front ++ lead in
      let tail : List Terminal = at.groups ++ at.rest in
      let left_is : shape.left ≡ (at.r ∷ at.run) ++ tail = at.parts ∙ append_assoc (at.r ∷ at.run) at.groups at.rest in
      let option_is : shape.option ≡ lead ++ ((at.r ∷ at.run) ++ tail) = set.parts ∙ ap (λ (l : List Terminal). lead ++ l) left_is in
      let zs_is : zs ≡ (key keyword.ALTER shape.n ∷ front) ++ ((at.r ∷ at.run) ++ tail) =
      shape.parts ∙ ap (λ (l : List Terminal). key keyword.ALTER shape.n ∷ l) (ap (λ (l : List Terminal). shape.front ++ l) option_is ∙ sym (append_assoc shape.front lead ((at.r ∷ at.run) ++ tail))) in
      let names = and_from (is_name (key keyword.ALTER shape.n)) (list_all is_name front) (alter_name shape.n) (names_append shape.front lead shape.names set.names) in
      let size = length-append shape.front lead in
      record {
        first = key keyword.ALTER shape.n;
        front = front;
        r = at.r;
        run = at.run;
        groups = at.groups;
        rest = at.rest;
        parts = zs_is;
        long = omega (arith, size);
        flat = names_flat (key keyword.ALTER shape.n ∷ front) names;
        named = names_end (key keyword.ALTER shape.n) front names;
        inner = at.inner;
        fine = at.fine;
        level = at.level;
        becomes = λ w f shown h end fuses.
            let left : List Terminal = w ∷ tail in
            let option : List Terminal = lead ++ left in
            let now_is : key keyword.ALTER shape.n ∷ (shape.front ++ option) ≡ (key keyword.ALTER shape.n ∷ front) ++ left =
            ap (λ (l : List Terminal). key keyword.ALTER shape.n ∷ l) (sym (append_assoc shape.front lead left)) in
            let us : List Terminal = key keyword.ALTER shape.n ∷ (shape.front ++ option) in
            let new : Piece = piece_in option piece.SetType left in
            let now : Action = action_in us a.AlterColumn (opened shape.kept) None (new ∷ []) in
            let read : action stmt.AlterTable us ≡ Some now = shape.reads (set.lead ++ left) ∙ ap (λ (o : Option (List Piece)). column_action us shape.kept o) (set.stays left) in
            let last : f (last_of us).number ≡ f (last_of zs).number =
            ap (λ (x : List Terminal). f (last_of x).number) now_is ∙ last_number f (key keyword.ALTER shape.n ∷ front) at.r at.run tail w fuses.last ∙ ap (λ (x : List Terminal). f (last_of x).number) (sym zs_is) in
            let piece_last : f (last_of option).number ≡ f (last_of shape.option).number =
            last_number f lead at.r at.run tail w fuses.last ∙ ap (λ (x : List Terminal). f (last_of x).number) (sym option_is) in
            subst (ActionReads f (λ x. x ≡ retyped_in f w.number b first p others)) now_is
            (record {
              now = now;
              is = read;
              has =
                  action_moves f w.number zs us shape.kept old new b first p others alone shape.is
                  (piece_moves f w.number shape.option option shape.left left ty (record (retyped_type w.number ty) { whole = span_of (w ∷ at.groups) }) (ap (λ (x : Piece). x.ty) (sym alone.same) ∙ typed)
                  (typed_by option left ∙ type_reads shape.left ty at w h end) (type_moves f ty w at.r at.run at.groups fuses at.whole) (ap (λ (x : List Terminal). f (get_or x 0 nothing).number) (sym option_is)) piece_last)
                  (ap (λ (x : List Terminal). f (get_or x 0 nothing).number) (sym zs_is)) last;
            });
      }

-- ---- the law

pub set_type_reads : SetTypeReads
set_type_reads tree before st after path earlier b later first p others ty w is parts kind body_is has set typed replaced name apart short =
    runs_become tree before st after ty.inner.first ty.inner.last w _ is parts name apart short
    (λ us e. action_becomes tree st path earlier b later ty w (λ f n now. now ≡ retyped_in f n b first p others) kind body_is name.symbol (λ here read. set_at tree first p others ty here b read has set typed replaced) us e)
