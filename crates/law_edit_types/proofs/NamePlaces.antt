-- The last name of a type that an ALTER TABLE adds or sets becomes a word: the statement stays.
use Rattle.std.proofs.Common.{◌≡◌, ◌≤◌, ◌⊎◌, inl, inr, ℕ, Bool, true, false, List, [], ◌∷◌, ◌++◌, length, length-append, append_assoc, sym, refl, ap, ◌∙◌, subst, arith, Option, Some}
use Rattle.std.proofs.lemmas.Bool.{false≢true, and_from}
use Rattle.std.specs.Prelude.{◌||◌}
use Rattle.std.specs.List.{list_all}
use Rattle.law_edit_inserts.specs.sql_keyword.declared.words.TheConstants.Keyword as keyword
use Rattle.law_edit_inserts.specs.sql_keyword.Same.{same_keyword}
use Rattle.law_edit_inserts.specs.sql_token.declared.token.Span.{Span}
use Rattle.law_edit_inserts.specs.sql_token.declared.token.TokKind.TheVariants.{Word}
use Rattle.law_edit_inserts.specs.sql_token.declared.terminal.Symbol.{Symbol}
use Rattle.law_edit_inserts.specs.sql_token.declared.terminal.Symbol.TheVariants as s
use Rattle.law_edit_inserts.specs.sql_token.declared.terminal.Terminal.{Terminal}
use Rattle.law_edit_inserts.specs.sql_token.Token.{Text}
use Rattle.law_edit_inserts.specs.sql_token.Terminal.{symbol_of, is_keyword, is_keyword_symbol, is_name, is_dot, is_dot_symbol}
use Rattle.law_edit_inserts.specs.sql_token.Depth.{opened}
use Rattle.law_edit_inserts.specs.sql_tree.declared.kinds.PieceKind.TheVariants as piece
use Rattle.law_edit_inserts.specs.sql_tree.declared.kinds.StmtKind.TheVariants as stmt
use Rattle.law_edit_inserts.specs.sql_tree.declared.nodes.Action.{Action}
use Rattle.law_edit_inserts.specs.sql_tree.declared.nodes.Body.TheVariants as body
use Rattle.law_edit_inserts.specs.sql_tree.declared.nodes.ColType.{ColType}
use Rattle.law_edit_inserts.specs.sql_tree.declared.nodes.Column.{Column}
use Rattle.law_edit_inserts.specs.sql_tree.declared.nodes.Piece.{Piece}
use Rattle.law_edit_inserts.specs.sql_tree.declared.nodes.Stmt.{Stmt}
use Rattle.law_edit_inserts.specs.sql_tree.declared.nodes.TyKind.TheVariants as kind
use Rattle.law_edit_inserts.specs.sql_tree.Action.{action}
use Rattle.law_edit_inserts.specs.sql_tree.ActionPieces.{piece_in}
use Rattle.law_edit_inserts.specs.sql_tree.Column.{column}
use Rattle.law_edit_inserts.specs.sql_tree.Statement.{Tree, statement, form_of, without_semicolon}
use Rattle.law_edit_inserts.specs.law_renumber.Moved.{stmt_moved}
use Rattle.law_edit_inserts.specs.law_edit_tokens.Beside.{ends_with_name_or_dot}
use Rattle.law_edit_inserts.specs.Concurrently.{key}
use Rattle.law_edit_inserts.proofs.ActionPlaces.{action_shows}
use Rattle.law_edit_inserts.proofs.Fields.{ended}
use Rattle.law_edit_inserts.proofs.Leading.{given_is}
use Rattle.law_edit_inserts.proofs.TakenConcurrently.{parts_of}
use Rattle.law_edit_types.specs.Names.{symbol_at, is_key_word}
use Rattle.law_edit_types.specs.Runs.{fused, word_term, IsTypeSymbol, last_or, is_type_run}
use Rattle.law_edit_types.specs.Runs.IsTypeSymbol.{plain as plain_symbol}
use Rattle.law_edit_types.proofs.Counts.{opened_append, closed_append, Flat, names_append, names_flat}
use Rattle.law_edit_types.proofs.Runs.{Becomes, word_run, parts_append, fused_first}
use Rattle.law_edit_types.proofs.TypeNames.{IsDotted, type_name, column_name}
use Rattle.law_edit_types.proofs.TypePlaces.{Fuses}
use Rattle.law_edit_types.proofs.TypeRuns.{run_uncut}
use Rattle.law_edit_types.proofs.TypeShapes.{named_to, last_append}
use Rattle.law_edit_types.proofs.Actions.{some_front, statement_reads, closed_of}
use Rattle.law_edit_types.proofs.Added.{chosen, no_column, no_action, no_some, add_name}
use Rattle.law_edit_types.proofs.Adding.{NoColumn, others_none, add_symbol, add_state, add_front}
use Rattle.law_edit_types.proofs.Altered.{has_type, only, typed_by, set_shape}
use Rattle.law_edit_types.proofs.SetTypes.{no_type}
use Rattle.law_edit_types.proofs.WordPlaces.{action_alike}

-- ---- what comes before a name

last_part : (x : Terminal) (xs : List Terminal) → ends_with_name_or_dot (x ∷ xs) ≡ (is_name (last_or x xs) || is_dot (last_or x xs))
last_part x [] = refl
last_part x (y ∷ xs) = last_part y xs

-- a name and dots after it, or the name alone
abbrev last_of_both : Terminal → List Terminal → List Terminal → Terminal
last_of_both x xs more = last_or (last_or x xs) more

pub name_then : (x : Terminal) (xs more : List Terminal) → is_name (last_or x xs) ≡ true → IsDotted more → ends_with_name_or_dot (x ∷ (xs ++ more)) ≡ true
name_then x xs more name dotted = last_part x (xs ++ more) ∙ ap (λ (t : Terminal). is_name t || is_dot t) (last_append x xs more) ∙ by (dotted (last_or x xs))
  where
    named : (a b : Bool) → a ≡ true → (a || b) ≡ true
    named true b h = refl
    named false b h = absurd (false≢true h)

    dot : (a b : Bool) → b ≡ true → (a || b) ≡ true
    dot true b h = refl
    dot false b h = h

    by : (last_of_both x xs more ≡ last_or x xs) ⊎ (is_dot (last_of_both x xs more) ≡ true) → (is_name (last_of_both x xs more) || is_dot (last_of_both x xs more)) ≡ true
    by (inl same) = named (is_name (last_of_both x xs more)) (is_dot (last_of_both x xs more)) (ap is_name same ∙ name)
    by (inr h) = dot (is_name (last_of_both x xs more)) (is_dot (last_of_both x xs more)) h

dot_no_word : (t : Terminal) → is_dot t ≡ true → is_keyword keyword.INITIALLY t ≡ false
unfolding is_dot is_keyword
dot_no_word t h = by t.symbol h
  where
    by : (x : Symbol) → is_dot_symbol x ≡ true → is_keyword_symbol keyword.INITIALLY x ≡ false
    by s.Dot h = refl
    by x h = absurd (false≢true h)

calm_then : (x : Terminal) (xs more : List Terminal) → is_keyword keyword.INITIALLY (last_or x xs) ≡ false → IsDotted more → is_keyword keyword.INITIALLY (last_or x (xs ++ more)) ≡ false
calm_then x xs more calm dotted = ap (is_keyword keyword.INITIALLY) (last_append x xs more) ∙ by (dotted (last_or x xs))
  where
    by : (last_of_both x xs more ≡ last_or x xs) ⊎ (is_dot (last_of_both x xs more) ≡ true) → is_keyword keyword.INITIALLY (last_of_both x xs more) ≡ false
    by (inl same) = ap (is_keyword keyword.INITIALLY) same ∙ calm
    by (inr h) = dot_no_word (last_of_both x xs more) h

pub flat_append : (xs ys : List Terminal) → Flat xs → Flat ys → Flat (xs ++ ys)
flat_append xs ys p q = record {
  opens = omega (arith, p.opens, q.opens, opened_append xs ys);
  closes = omega (arith, p.closes, q.closes, closed_append xs ys);
}

pub name_run : (r : Terminal) → is_name r ≡ true → is_type_run (r ∷ []) ≡ true
name_run r h = named_to r [] (ap (λ (b : Bool). b || is_dot r) h ∙ refl)

-- ---- the place of a name in an action

pub record NamePlace (here : List Terminal) (n : ℕ) : Type 0 where
  pub first : Terminal
  pub front : List Terminal
  pub r : Terminal
  pub rest : List Terminal
  pub parts : here ≡ (first ∷ front) ++ r ∷ rest
  pub number : r.number ≡ n
  pub name : is_name r ≡ true
  pub long : 2 ≤ length (first ∷ front)
  pub flat : Flat (first ∷ front)
  pub named : ends_with_name_or_dot (first ∷ front) ≡ true
  pub quiet : is_keyword keyword.ALTER first ≡ true → is_keyword keyword.INITIALLY (last_or first front) ≡ false

-- The statement with a word in the place of that name is the same, under its new numbers.
pub altered_name : (tree : Tree) (st : Stmt) (path : Option Span) (earlier : List Action) (b : Action) (later : List Action) (n : ℕ) (w : Text) → st.kind ≡ stmt.AlterTable → st.body ≡ body.Alter path (earlier ++ b ∷ later) →
    is_key_word (symbol_at tree n) ≡ false → symbol_of Word w ≡ s.Word → ((here : List Terminal) → action stmt.AlterTable here ≡ Some b → NamePlace here n) → (us : List Terminal) → statement us ≡ Some st →
    Becomes tree n n w (λ now. now ≡ stmt_moved (fused n n) st) us
altered_name tree st path earlier b later n w kind has key_word symbol place us e =
    let word : Terminal = word_term w n in
    let f : ℕ → ℕ = fused n n in
    let word_type : IsTypeSymbol (symbol_of Word w) = plain_symbol symbol in
    let end = ended us in
    let read = parts_of us st e in
    let shows = action_shows (without_semicolon us) path earlier b later (read.form ∙ (λ i. Some (kind i, has i))) in
    let at = place shows.here shows.is in
    let run = name_run at.r at.name in
    let low : closed_of (at.first ∷ at.front) ≤ opened (at.first ∷ at.front) = omega (arith, at.flat.opens, at.flat.closes) in
    let change = shows.changes (at.first ∷ at.front) at.r [] at.rest at.parts (run_uncut (at.r ∷ []) run) at.long low in
    let some = some_front change.front change.earlier at.first at.front change.there in
    let bare : without_semicolon us ≡ (some.first ∷ some.front) ++ at.r ∷ change.tail = change.parts ∙ ap (λ (x : List Terminal). x ++ at.r ∷ change.tail) some.parts in
    let parts : us ≡ (some.first ∷ some.front) ++ at.r ∷ (change.tail ++ end.end) =
    end.parts ∙ ap (λ (x : List Terminal). x ++ end.end) bare ∙ append_assoc (some.first ∷ some.front) (at.r ∷ change.tail) end.end in
    record {
      first = some.first;
      front = some.front;
      r = at.r;
      run = [];
      tail = change.tail ++ end.end;
      parts = parts;
      begins = at.number;
      ends = at.number;
      closed = run;
      named = ap ends_with_name_or_dot (sym some.parts ∙ change.there) ∙ parts_append change.earlier at.first at.front ∙ at.named;
      reads = λ around.
          let fuses : Fuses f word at.r [] = record { fixed = fused_first n n around.order; first = ap f (sym at.number); last = ap f (sym at.number) } in
          let plain = ap is_key_word around.symbol ∙ key_word in
          let number = at.number in
          let same : record at.r { symbol = s.Word } ≡ word = (λ i. record { symbol = sym symbol i; number = number i }) in
          let new : action stmt.AlterTable ((at.first ∷ at.front) ++ word ∷ at.rest) ≡ Some b =
          ap (λ (x : Terminal). action stmt.AlterTable ((at.first ∷ at.front) ++ x ∷ at.rest)) (sym same) ∙ action_alike at.first at.front at.r at.rest at.name plain at.quiet ∙ ap (action stmt.AlterTable) (sym at.parts) ∙ shows.is in
          let form = change.becomes word [] b (run_uncut (word ∷ []) (word_run (symbol_of Word w) n word_type)) new in
          record {
            now = stmt_moved f st;
            has = refl;
            is =
                statement_reads f us st some.first some.front at.r [] change.tail end.end word (stmt.AlterTable, body.Alter path (earlier ++ b ∷ later)) e parts bare run word_type fuses
                (ap (λ (x : List Terminal). form_of (x ++ word ∷ change.tail)) (sym some.parts) ∙ form)
                ∙ (λ i. Some (stmt_moved f (record st { kind = sym kind i; body = sym has i })));
          };
    }

-- ---- ADD COLUMN

add_no_alter : (n : ℕ) → is_keyword keyword.ALTER (key keyword.ADD n) ≡ false
unfolding is_keyword same_keyword
add_no_alter n = refl

-- a list that ends with some
record Headed (ts : List Terminal) : Type 0 where
  pub u : Terminal
  pub rest : List Terminal
  pub parts : ts ≡ u ∷ rest

headed : (xs : List Terminal) (y : Terminal) (ys : List Terminal) → Headed (xs ++ y ∷ ys)
headed [] y ys = record { u = y; rest = ys; parts = refl }
headed (x ∷ xs) y ys = record { u = x; rest = xs ++ y ∷ ys; parts = refl }

added_from : (n : ℕ) (ts : List Terminal) (t : Terminal) (us : List Terminal) (c : Column) (ty : ColType) → (add_state ts).left ≡ t ∷ us → column (t ∷ us) ≡ Some c → c.ty ≡ Some ty → ty.kind ≡ kind.Path → NamePlace (key keyword.ADD n ∷ ts) ty.name
added_from n ts t us c ty left read typed path =
    let at = column_name t us c ty read typed path in
    let type = at.type in
    let h = headed type.front type.r type.rest in
    let g = add_front ts t h.u h.rest (left ∙ ap (λ (l : List Terminal). t ∷ l) (type.parts ∙ h.parts)) in
    let lead : List Terminal = g.front ++ t ∷ [] in
    let names = and_from (is_name (key keyword.ADD n)) (list_all is_name lead) (add_name n) (names_append g.front (t ∷ []) g.names (and_from (is_name t) true at.name refl)) in
    let size = length-append lead type.front in
    let size' = length-append g.front (t ∷ []) in
    let last : is_name (last_or (key keyword.ADD n) lead) ≡ true = ap is_name (last_append (key keyword.ADD n) g.front (t ∷ [])) ∙ at.name in
    record {
      first = key keyword.ADD n;
      front = lead ++ type.front;
      r = type.r;
      rest = type.rest;
      parts = ap (λ (l : List Terminal). key keyword.ADD n ∷ l)
          (g.parts ∙ ap (λ (l : List Terminal). g.front ++ t ∷ l) (sym h.parts)
          ∙ sym (append_assoc g.front (t ∷ []) (type.front ++ type.r ∷ type.rest)) ∙ sym (append_assoc lead type.front (type.r ∷ type.rest)));
      number = type.number;
      name = type.name;
      long = omega (arith, size, size');
      flat = flat_append (key keyword.ADD n ∷ lead) type.front (names_flat (key keyword.ADD n ∷ lead) names) type.flat;
      named = name_then (key keyword.ADD n) lead type.front last type.dotted;
      quiet = λ alter. absurd (false≢true (sym (add_no_alter n) ∙ alter));
    }

pub added_place : (here : List Terminal) (b : Action) (c : Column) (ty : ColType) → action stmt.AlterTable here ≡ Some b → b.column ≡ Some c → c.ty ≡ Some ty → ty.kind ≡ kind.Path → NamePlace here ty.name
added_place [] b c ty e has typed path = absurd (no_some b (sym no_action ∙ e))
added_place (x ∷ ts) b c ty e has typed path = by (is_keyword_symbol keyword.ADD x.symbol) refl
  where
    left : (n : ℕ) (l : List Terminal) → (add_state ts).left ≡ l → column l ≡ Some c → NamePlace (key keyword.ADD n ∷ ts) ty.name
    left n [] p read = absurd (no_some c (sym no_column ∙ read))
    left n (t ∷ us) p read = added_from n ts t us c ty p read typed path

    by : (add : Bool) → is_keyword_symbol keyword.ADD x.symbol ≡ add → NamePlace (x ∷ ts) ty.name
    by false h = absurd (no_some c (sym (given_is NoColumn (action stmt.AlterTable (x ∷ ts)) b (others_none x ts h) e) ∙ has))
    by true h =
        let word = add_symbol x.symbol h in
        let same = chosen x.number ts b c (ap (λ (y : Symbol). action stmt.AlterTable (record { symbol = y; number = x.number } ∷ ts)) word ∙ e) has in
        subst (λ (y : Symbol). NamePlace (record { symbol = y; number = x.number } ∷ ts) ty.name) word (left x.number (add_state ts).left refl same.column_is)

-- ---- ALTER COLUMN with SET DATA TYPE

alter_name : (n : ℕ) → is_name (key keyword.ALTER n) ≡ true
unfolding is_name
alter_name n = refl

pub set_place : (zs : List Terminal) (b : Action) (first : List Piece) (p : Piece) (others : List Piece) (ty : ColType) → action stmt.AlterTable zs ≡ Some b → b.pieces ≡ first ++ p ∷ others → p.kind ≡ piece.SetType → p.ty ≡ Some ty →
    ty.kind ≡ kind.Path → NamePlace zs ty.name
set_place zs b first p others ty e has kind typed path =
    let shape = set_shape zs b e (ap no_type has ∙ has_type first p others kind) in
    let set = shape.set in
    let alone = only (piece_in shape.option piece.SetType shape.left) first p others (sym has ∙ ap (λ (x : Action). x.pieces) shape.is) in
    let type = type_name shape.left ty (sym (typed_by shape.option shape.left) ∙ ap (λ (x : Piece). x.ty) (sym alone.same) ∙ typed) path in
    let alter : Terminal = key keyword.ALTER shape.n in
    let words : List Terminal = set.first ∷ set.lead in
    let lead : List Terminal = shape.front ++ words in
    let end : last_or alter lead ≡ last_or set.first set.lead = last_append alter shape.front words in
    let names = and_from (is_name alter) (list_all is_name lead) (alter_name shape.n) (names_append shape.front words shape.names set.names) in
    let size = length-append lead type.front in
    let size' = length-append shape.front words in
    record {
      first = alter;
      front = lead ++ type.front;
      r = type.r;
      rest = type.rest;
      parts = shape.parts
          ∙ ap (λ (l : List Terminal). alter ∷ l)
          (ap (λ (l : List Terminal). shape.front ++ l) (set.parts ∙ ap (λ (l : List Terminal). words ++ l) type.parts)
          ∙ sym (append_assoc shape.front words (type.front ++ type.r ∷ type.rest)) ∙ sym (append_assoc lead type.front (type.r ∷ type.rest)));
      number = type.number;
      name = type.name;
      long = omega (arith, size, size');
      flat = flat_append (alter ∷ lead) type.front (names_flat (alter ∷ lead) names) type.flat;
      named = name_then alter lead type.front (ap is_name end ∙ set.ends) type.dotted;
      quiet = λ is. calm_then alter lead type.front (ap (is_keyword keyword.INITIALLY) end ∙ set.calm) type.dotted;
    }
