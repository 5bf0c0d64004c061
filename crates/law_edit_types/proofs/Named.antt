-- The last name of a column's type becomes a word: the tree stays.
use Rattle.std.proofs.Common.{◌≡◌, ◌≤◌, ℕ, Bool, true, false, List, [], ◌∷◌, ◌++◌, map, append_assoc, sym, refl, ap, ◌∙◌, arith, Option, Some, None}
use Rattle.std.proofs.lemmas.Bool.{false≢true}
use Rattle.std.proofs.lemmas.List.{map-append}
use Rattle.std.specs.Prelude.{◌==◌}
use Rattle.std.specs.Option.{option_map, option_and_then}
use Rattle.law_edit_inserts.specs.sql_token.declared.token.TokKind.TheVariants.{Word}
use Rattle.law_edit_inserts.specs.sql_token.declared.terminal.Symbol.TheVariants as s
use Rattle.law_edit_inserts.specs.sql_token.declared.terminal.Terminal.{Terminal}
use Rattle.law_edit_inserts.specs.sql_token.Token.{Text}
use Rattle.law_edit_inserts.specs.sql_token.Terminal.{symbol_of, is_name}
use Rattle.law_edit_inserts.specs.sql_token.Depth.{opened}
use Rattle.law_edit_inserts.specs.sql_tree.declared.kinds.StmtKind.{StmtKind}
use Rattle.law_edit_inserts.specs.sql_tree.declared.kinds.StmtKind.TheVariants as stmt
use Rattle.law_edit_inserts.specs.sql_tree.declared.nodes.Body.{Body}
use Rattle.law_edit_inserts.specs.sql_tree.declared.nodes.ColType.{ColType}
use Rattle.law_edit_inserts.specs.sql_tree.declared.nodes.Column.{Column}
use Rattle.law_edit_inserts.specs.sql_tree.declared.nodes.Elem.{Elem}
use Rattle.law_edit_inserts.specs.sql_tree.declared.nodes.Elem.TheVariants as elem
use Rattle.law_edit_inserts.specs.sql_tree.declared.nodes.Stmt.{Stmt}
use Rattle.law_edit_inserts.specs.sql_tree.declared.nodes.TyKind.TheVariants as kind
use Rattle.law_edit_inserts.specs.sql_tree.Column.{element, elements}
use Rattle.law_edit_inserts.specs.sql_tree.Forms.{State}
use Rattle.law_edit_inserts.specs.sql_tree.Split.{split, comma}
use Rattle.law_edit_inserts.specs.sql_tree.Statement.{Tree, statement, body_shape_of, body_by, final_kind, kind_and_body, from_verb, form_from, form_of, without_semicolon}
use Rattle.law_edit_inserts.specs.law_renumber.Moved.{stmt_moved}
use Rattle.law_edit_inserts.specs.law_renumber.Options.{LeftKept, FrontKept, StatementKept}
use Rattle.law_edit_inserts.specs.law_renumber.Renumber.{renumber}
use Rattle.law_edit_inserts.proofs.of_law_renumber.Names.{statements_read_alike}
use Rattle.law_edit_inserts.proofs.of_law_renumber.Statements.{statement_renumbers}
use Rattle.law_edit_inserts.specs.law_edit_tokens.Beside.{ends_with_name_or_dot}
use Rattle.law_edit_inserts.specs.law_edit_cuts.Runs.{is_closed, nowhere}
use Rattle.law_edit_inserts.proofs.of_law_edit_cuts.CutLaws.{part_exchanges}
use Rattle.law_edit_inserts.proofs.ActionPlaces.{last_part}
use Rattle.law_edit_inserts.proofs.Fields.{ended}
use Rattle.law_edit_inserts.proofs.TakenConcurrently.{parts_of}
use Rattle.law_edit_types.specs.Names.{symbol_at, is_key_word}
use Rattle.law_edit_types.specs.Runs.{fused, word_term}
use Rattle.law_edit_types.proofs.Runs.{Becomes, parts_append, fused_first, runs_become}
use Rattle.law_edit_types.proofs.TypeNames.{column_name}
use Rattle.law_edit_types.proofs.TypeRuns.{run_rest, run_uncut}
use Rattle.law_edit_types.specs.Created.{TableHead, table_of}
use Rattle.law_edit_types.specs.Named.{HasType, NameReads}
use Rattle.law_edit_types.specs.Named.HasType.{created, added, altered}
use Rattle.law_edit_types.proofs.BracketLists.{in_brackets, bracketed}
use Rattle.law_edit_types.proofs.Created.{bare_closed, parts_closed, begun, round_break, round_opens, after_opener, list_elements, some_elements}
use Rattle.law_edit_types.proofs.CreateFronts.{is_create, kind_stays, create_table_shows}
use Rattle.law_edit_types.proofs.Elements.{elem_at, column_read, name_low}
use Rattle.law_edit_types.proofs.NamePlaces.{name_then, flat_append, name_run, altered_name, added_place, set_place}
use Rattle.law_edit_types.proofs.WordPlaces.{as_word, plain_term, list_becomes}
use Rattle.law_edit_types.proofs.Actions.{closed_of}

-- ---- a CREATE TABLE has no options

create_kept : (g : Terminal → Terminal) (kind : StmtKind) (st : State) → is_create kind ≡ true → LeftKept g (body_shape_of kind) (kind, st)
unfolding body_shape_of
create_kept g stmt.CreateTable st h = tt
create_kept g kind st h = absurd (false≢true h)

left_kept : (g : Terminal → Terminal) (kind : StmtKind) (st : State) → is_create (final_kind kind st) ≡ true → LeftKept g (body_shape_of kind) (kind, st)
left_kept g kind st h = by (is_create kind) refl
  where
    by : (b : Bool) → is_create kind ≡ b → LeftKept g (body_shape_of kind) (kind, st)
    by true e = create_kept g kind st e
    by false e = absurd (false≢true (sym (kind_stays kind st e) ∙ h))

told_kept : (g : Terminal → Terminal) (ts : List Terminal) (front : StmtKind × State) (kind : StmtKind) (b : Body) → kind_and_body ts front ≡ Some (kind, b) → kind ≡ stmt.CreateTable → LeftKept g (body_shape_of front.0) front
unfolding kind_and_body
told_kept g ts front kind b e is = by (body_by (body_shape_of front.0) front.0 front.1 ts) e
  where
    inside : {x y : StmtKind × Body} → Some x ≡ Some y → x ≡ y
    inside e = cc

    none : {x : StmtKind × Body} → None ≡ Some x → ⊥
    none e = cc

    by : (o : Option Body) → option_and_then {U = StmtKind × Body} (λ x. Some (final_kind front.0 front.1, x)) o ≡ Some (kind, b) → LeftKept g (body_shape_of front.0) front
    by None e = absurd (none e)
    by (Some x) e = left_kept g front.0 front.1 (ap is_create (ap (λ (f : StmtKind × Body). f.0) (inside e) ∙ is))

form_kept : (g : Terminal → Terminal) (ts : List Terminal) (kind : StmtKind) (b : Body) → form_of ts ≡ Some (kind, b) → kind ≡ stmt.CreateTable → FrontKept g (from_verb ts)
unfolding form_of form_from from_verb
form_kept g [] kind b e is = tt
form_kept g (t ∷ ts) kind b e is = by (from_verb (t ∷ ts)) e
  where
    by : (l : List Terminal) → form_from l ≡ Some (kind, b) → FrontKept g l
    by [] e = tt
    by (x ∷ xs) e = λ front at. told_kept g xs front kind b (ap (λ (o : Option (StmtKind × State)). option_and_then (kind_and_body xs) o) (sym at) ∙ e) is

created_kept : (g : Terminal → Terminal) (us : List Terminal) (st : Stmt) → statement us ≡ Some st → st.kind ≡ stmt.CreateTable → StatementKept g us
created_kept g us st e is = form_kept g (without_semicolon us) st.kind st.body (parts_of us st e).form is

-- ---- the list of a CREATE TABLE

-- where in the terminals of the statement the list of its elements is
record InTable (us : List Terminal) (elems : List Elem) : Type 0 where
  pub first : Terminal
  pub front : List Terminal
  pub inside : List Terminal
  pub after : List Terminal
  pub parts : us ≡ (first ∷ front) ++ (inside ++ after)
  pub elements_are : map element (split comma inside) ≡ elems

in_table : (st : Stmt) (head : TableHead) (earlier : List Elem) (x : Elem) (later : List Elem) → st.kind ≡ stmt.CreateTable → st.body ≡ table_of head (earlier ++ x ∷ later) → (us : List Terminal) → statement us ≡ Some st → InTable us (earlier ++ x ∷ later)
in_table st head earlier x later kind has us e =
    let end = ended us in
    let read = parts_of us st e in
    let bare : List Terminal = without_semicolon us in
    let shape = create_table_shows bare head.temp head.guarded head.on_commit_drop head.word head.path (earlier ++ x ∷ later) (read.form ∙ (λ i. Some (kind i, has i))) in
    let list = begun shape.left earlier x later shape.elems_are in
    let opener = round_opens list.begin list.round in
    let front = shape.fronts list.begin list.rest list.parts (round_break list.begin.symbol list.begin.number list.round) in
    let whole = bare_closed us bare end.end read.sound end.parts end.opens end.closes in
    let list_closed = run_rest nowhere 0 (front.first ∷ front.front) (list.begin ∷ list.rest) (parts_closed (front.first ∷ front.front) front.names) (ap is_closed (sym front.parts) ∙ whole) in
    let inner = in_brackets 0 list.rest (after_opener list.begin list.rest opener list_closed) in
    let after : List Terminal = inner.end ∷ inner.after in
    let left_is : shape.left ≡ bracketed list.begin inner.inside inner.end inner.after = list.parts ∙ ap (λ (l : List Terminal). list.begin ∷ l) inner.parts in
    let old = sym (list_elements list.begin inner.inside inner.end inner.after list.round inner.opener inner.closer inner.closed) ∙ ap elements (sym left_is) ∙ shape.elems_are in
    let lead : List Terminal = front.first ∷ front.front in
    record {
      first = front.first;
      front = front.front ++ list.begin ∷ [];
      inside = inner.inside;
      after = after ++ end.end;
      parts = end.parts
          ∙ ap (λ (l : List Terminal). l ++ end.end) (front.parts ∙ ap (λ (l : List Terminal). lead ++ list.begin ∷ l) inner.parts)
          ∙ append_assoc lead (list.begin ∷ (inner.inside ++ after)) end.end
          ∙ ap (λ (l : List Terminal). lead ++ list.begin ∷ l) (append_assoc inner.inside after end.end)
          ∙ sym (append_assoc lead (list.begin ∷ []) (inner.inside ++ (after ++ end.end)));
      elements_are = some_elements inner.inside earlier x later old;
    }

-- the last name of a type in that list
record ListName (inside : List Terminal) (n : ℕ) : Type 0 where
  pub front : List Terminal
  pub t : Terminal
  pub more : List Terminal
  pub r : Terminal
  pub tail : List Terminal
  pub parts : inside ≡ (front ++ t ∷ more) ++ r ∷ tail
  pub named : ends_with_name_or_dot (t ∷ more) ≡ true
  pub number : r.number ≡ n
  pub name : is_name r ≡ true

list_name : (inside : List Terminal) (earlier : List Elem) (c : Column) (later : List Elem) (ty : ColType) → map element (split comma inside) ≡ earlier ++ elem.Column c ∷ later → c.ty ≡ Some ty → ty.kind ≡ kind.Path → ListName inside ty.name
list_name inside earlier c later ty e typed path =
    let x = elem_at (split comma inside) earlier (elem.Column c) later e in
    let read = column_read x.here c x.is in
    let at = column_name read.t read.us c ty read.is typed path in
    let type = at.type in
    let p : List Terminal = read.t ∷ type.front in
    let flat = flat_append (read.t ∷ []) type.front (name_low read.t at.name) type.flat in
    let cut : split comma inside ≡ x.front ++ (p ++ type.r ∷ type.rest) ∷ x.after =
    x.parts ∙ ap (λ (l : List Terminal). x.front ++ l ∷ x.after) (read.parts ∙ ap (λ (l : List Terminal). read.t ∷ l) type.parts) in
    let low : closed_of p ≤ opened p = omega (arith, flat.opens, flat.closes) in
    let place = part_exchanges inside x.front p type.r [] type.rest x.after (run_uncut (type.r ∷ []) (name_run type.r type.name)) low cut in
    let last = last_part place.earlier x.front p place.there.starts in
    record {
      front = last.0;
      t = read.t;
      more = type.front;
      r = type.r;
      tail = place.later;
      parts = place.list ∙ ap (λ (l : List Terminal). l ++ type.r ∷ place.later) last.1;
      named = name_then read.t [] type.front at.name type.dotted;
      number = type.number;
      name = type.name;
    }

-- ---- the statement with the word

-- It is the same, under its new numbers.
created_reads : (n : ℕ) (w : Text) (st : Stmt) (first : Terminal) (front : List Terminal) (r : Terminal) (tail us : List Terminal) → st.kind ≡ stmt.CreateTable → statement us ≡ Some st → us ≡ (first ∷ front) ++ r ∷ tail →
    map (as_word n) ((first ∷ front) ++ r ∷ tail) ≡ (first ∷ front) ++ plain_term n ∷ tail → symbol_of Word w ≡ s.Word → fused n n n ≡ n →
    statement (map (renumber (fused n n)) (first ∷ front) ++ word_term w n ∷ map (renumber (fused n n)) tail) ≡ Some (stmt_moved (fused n n) st)
created_reads n w st first front r tail us kind e parts list symbol fixed =
    let f : ℕ → ℕ = fused n n in
    let R : Terminal → Terminal = renumber f in
    let here : statement ((first ∷ front) ++ r ∷ tail) ≡ Some st = ap statement (sym parts) ∙ e in
    let kept = created_kept (as_word n) ((first ∷ front) ++ r ∷ tail) st here kind in
    let now : statement ((first ∷ front) ++ plain_term n ∷ tail) ≡ Some st = ap statement (sym list) ∙ statements_read_alike (λ x. x == n) first (front ++ r ∷ tail) kept ∙ here in
    let word : word_term w n ≡ R (plain_term n) = (λ i. record { symbol = symbol i; number = sym fixed i }) in
    ap (λ (x : Terminal). statement (map R (first ∷ front) ++ x ∷ map R tail)) word
    ∙ ap statement (sym (map-append R (first ∷ front) (plain_term n ∷ tail)))
    ∙ statement_renumbers f first (front ++ plain_term n ∷ tail)
    ∙ ap (λ (x : Option Stmt). option_map (stmt_moved f) x) now

created_name : (tree : Tree) (st : Stmt) (head : TableHead) (earlier : List Elem) (c : Column) (later : List Elem) (ty : ColType) (w : Text) → st.kind ≡ stmt.CreateTable → st.body ≡ table_of head (earlier ++ elem.Column c ∷ later) → c.ty ≡ Some ty →
    ty.kind ≡ kind.Path → is_key_word (symbol_at tree ty.name) ≡ false → symbol_of Word w ≡ s.Word → (us : List Terminal) → statement us ≡ Some st → Becomes tree ty.name ty.name w (λ now. now ≡ stmt_moved (fused ty.name ty.name) st) us
created_name tree st head earlier c later ty w kind has typed path key_word symbol us e =
    let n : ℕ = ty.name in
    let table = in_table st head earlier (elem.Column c) later kind has us e in
    let at = list_name table.inside earlier c later ty table.elements_are typed path in
    let lead : List Terminal = table.first ∷ table.front in
    let mid : List Terminal = at.front ++ at.t ∷ at.more in
    let tail : List Terminal = at.tail ++ table.after in
    let parts : us ≡ (lead ++ mid) ++ at.r ∷ tail =
    table.parts ∙ ap (λ (l : List Terminal). lead ++ (l ++ table.after)) at.parts ∙ ap (λ (l : List Terminal). lead ++ l) (append_assoc mid (at.r ∷ at.tail) table.after) ∙ sym (append_assoc lead mid (at.r ∷ tail)) in
    record {
      first = table.first;
      front = table.front ++ mid;
      r = at.r;
      run = [];
      tail = tail;
      parts = parts;
      begins = at.number;
      ends = at.number;
      closed = name_run at.r at.name;
      named = ap ends_with_name_or_dot (sym (append_assoc lead at.front (at.t ∷ at.more))) ∙ parts_append (lead ++ at.front) at.t at.more ∙ at.named;
      reads = λ around.
          let plain = ap is_key_word around.symbol ∙ key_word in
          let list = list_becomes n (lead ++ mid) at.r tail around.low around.high at.number at.name plain in
          record {
            now = stmt_moved (fused n n) st;
            has = refl;
            is = created_reads n w st table.first (table.front ++ mid) at.r tail us kind e parts list symbol (fused_first n n around.order);
          };
    }

-- ---- the law

pub name_reads : NameReads
name_reads tree before st after ty w is parts has path key_word name symbol apart short =
    runs_become tree before st after ty.name ty.name w (λ now. now ≡ stmt_moved (fused ty.name ty.name) st) is parts name apart short (λ us e. by has us e)
  where
    by : HasType st ty → (us : List Terminal) → statement us ≡ Some st → Becomes tree ty.name ty.name w (λ now. now ≡ stmt_moved (fused ty.name ty.name) st) us
    by (created head earlier c later kind body typed) us e = created_name tree st head earlier c later ty w kind body typed path key_word symbol us e
    by (added at earlier b later c kind body has typed) us e =
        altered_name tree st at earlier b later ty.name w kind body key_word symbol (λ here read. added_place here b c ty read has typed path) us e
    by (altered at earlier b later first p others kind body has set typed) us e =
        altered_name tree st at earlier b later ty.name w kind body key_word symbol (λ here read. set_place here b first p others ty read has set typed path) us e
