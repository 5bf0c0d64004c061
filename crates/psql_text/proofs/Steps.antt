-- One step of the reading.
use Rattle.std.proofs.Common.{◌≡◌, ℕ, ◌+◌, ◌<◌, ◌≤◌, true, false, max, List, [], length, refl, ap, sym, ◌∙◌, subst, arith, Some, None}
use Rattle.std.specs.Prelude.{◌==◌, ◌&&◌, ◌||◌, Bool, Option, not}
use Rattle.std.specs.Str.{IsUtf8, IsCharBoundary}
use Rattle.std.proofs.lemmas.Bool.{and_parts}
use Rattle.std.proofs.lemmas.Str.{IsCharBoundary-before_ascii}
use Rattle.sql_lex.specs.sql_token.declared.token.TokKind.{TokKind}
use Rattle.sql_lex.specs.sql_token.declared.token.TokKind.TheVariants.{Op}
use Rattle.sql_lex.specs.sql_token.Token.{Text, At}
use Rattle.psql_text.specs.Lines.{begins_command, begins_ending, IsLineEnd, IsDataEnd}
use Rattle.psql_text.specs.Marks.{marks_after, begins_body, ends_copy, is_atomic, is_whole}
use Rattle.psql_text.specs.Psql.{Reads, IsBody, is_at_command, is_at_ending, mark_at, mark_here, start}
use Rattle.psql_text.specs.Psql.Reads.{token, copy, last, ending, body, endless}
use Rattle.sql_lex.proofs.SignLaws.{signs_after}
use Rattle.psql_text.specs.Reading.{GoesTo, GoesPast, FoundIs, Finds, IsPlace, IsOn, IsAhead, IsAtBody, MayFollow, begins_body_of, is_command_next, is_ending_next, state, summary}
use Rattle.psql_text.specs.declared.mark.Mark.{Mark}
use Rattle.psql_text.specs.declared.statement.Statement.{Statement}
use Rattle.psql_text.specs.declared.part.PartKind.TheVariants.{Data, Ending, Body}
use Rattle.psql_text.specs.declared.reading.Reading.{Reading}
use Rattle.psql_text.specs.declared.reading.Found.{Found}
use Rattle.psql_text.proofs.Places.{after_feed, command_some, data_bounds, data_whole, is_ending_backslash, line_whole}
use Rattle.psql_text.proofs.Words.{atomic_whole}

-- ---- what is next is known by what is kept of the marks

no_command : (t : Text) (r : Reading) (ms : List Mark) → r.statement ≡ summary ms → is_command_next t r ≡ false → is_at_command (state t r ms) ≡ false
no_command t r ms h none = ap (λ (x : Statement). begins_command t r.at || (begins_ending t r.at && not (x.begins_copy && x.has_from_stdin))) (sym h) ∙ none

an_ending : (t : Text) (r : Reading) (ms : List Mark) → r.statement ≡ summary ms → is_ending_next t r ≡ true → is_at_ending (state t r ms) ≡ true
an_ending t r ms h is = ap (λ (x : Statement). begins_ending t r.at && not (x.begins_copy && x.has_from_stdin)) (sym h) ∙ is

body_same : (st : Statement) (ms : List Mark) (m : Mark) → st ≡ summary ms → begins_body ms m ≡ begins_body_of st m
body_same st ms m h = ap (λ (x : Statement). begins_body_of x m) (sym h)

-- ---- tokens and data

pub token_goes : (t : Text) (r : Reading) (k : TokKind) (j : ℕ) (st : Statement) (m : Mark) (ms : List Mark) → r.statement ≡ summary ms → is_command_next t r ≡ false → At t r.at k j →
    m ≡ mark_here (state t r ms) k j → begins_body_of r.statement m ≡ false → ends_copy ms m ≡ false → st ≡ summary (marks_after ms m) →
    GoesTo t (state t r ms) (record { at = j; taken = r.taken; statement = st })
token_goes t r k j st m ms h plain at same none other sum =
    let s = state t r ms in (
      marks_after ms (mark_here s k j),
      sum ∙ ap (λ (x : Mark). summary (marks_after ms x)) same,
      λ ps rest. token s k j ps (no_command t r ms h plain) at (ap (λ (x : Mark). begins_body ms x) (sym same) ∙ (body_same r.statement ms m h ∙ none)) (ap (λ (x : Mark). ends_copy ms x) (sym same) ∙ other) rest,
    )

pub token_moves : (t : Text) (r : Reading) (k : TokKind) (j : ℕ) (st : Statement) (is_operator : Bool) → IsPlace t r → At t r.at k j →
    st.opened ≤ r.statement.opened + 1 → st.closed ≤ r.statement.closed + 1 → (is_operator ≡ true → k ≡ Op) →
    IsOn t r (record { at = j; taken = r.taken; statement = st }) × MayFollow t j is_operator
token_moves t r k j st is_operator place at opened closed op = (
  record {
    at = at.before;
    taken = omega arith;
    place = record { at = at.within; taken = place.taken; opened = omega (arith, place.opened, at.before); closed = omega (arith, place.closed, at.before) };
  },
  λ is. (omega (arith, at.before), signs_after t r.at j k (op is) at),
)

pub last_goes : (t : Text) (r : Reading) (k : TokKind) (j d : ℕ) (st : Statement) (m : Mark) (ms : List Mark) → r.statement ≡ summary ms → is_command_next t r ≡ false → At t r.at k j →
    m ≡ mark_here (state t r ms) k j → ends_copy ms m ≡ true → IsLineEnd t (max j r.taken) d → length t ≤ d + 1 → st ≡ summary (marks_after ms m) →
    GoesTo t (state t r ms) (record { at = j; taken = d; statement = st })
last_goes t r k j d st m ms h plain at same is line none sum =
    let s = state t r ms in (
      marks_after ms (mark_here s k j),
      sum ∙ ap (λ (x : Mark). summary (marks_after ms x)) same,
      λ ps rest. last s k j d ps (no_command t r ms h plain) at (ap (λ (x : Mark). ends_copy ms x) (sym same) ∙ is) line none rest,
    )

pub last_moves : (t : Text) (r : Reading) (k : TokKind) (j d : ℕ) (st : Statement) → IsPlace t r → At t r.at k j → IsLineEnd t (max j r.taken) d →
    st.opened ≤ r.statement.opened + 1 → st.closed ≤ r.statement.closed + 1 → IsOn t r (record { at = j; taken = d; statement = st })
last_moves t r k j d st place at line opened closed = record {
  at = at.before;
  taken = omega (arith, line.begun);
  place = record { at = at.within; taken = line.within; opened = omega (arith, place.opened, at.before); closed = omega (arith, place.closed, at.before) };
}

abbrev pub data_found : ℕ → ℕ → ℕ → Statement → Found
data_found j d e st = record { part = record { kind = Data; from = d + 1; to = e }; next = record { at = j; taken = e; statement = st } }

pub data_goes : (t : Text) (r : Reading) (k : TokKind) (j d e : ℕ) (st : Statement) (m : Mark) (ms : List Mark) → r.statement ≡ summary ms → is_command_next t r ≡ false → At t r.at k j →
    m ≡ mark_here (state t r ms) k j → ends_copy ms m ≡ true → IsLineEnd t (max j r.taken) d → d + 1 < length t → IsDataEnd t d e → st ≡ summary (marks_after ms m) →
    GoesPast t (state t r ms) (data_found j d e st)
data_goes t r k j d e st m ms h plain at same is line some end sum =
    let s = state t r ms in (
      marks_after ms (mark_here s k j),
      sum ∙ ap (λ (x : Mark). summary (marks_after ms x)) same,
      λ ps rest. copy s k j d e ps (no_command t r ms h plain) at (ap (λ (x : Mark). ends_copy ms x) (sym same) ∙ is) line some end rest,
    )

pub data_moves : (t : Text) (r : Reading) (k : TokKind) (j d e : ℕ) (st : Statement) → IsPlace t r → At t r.at k j → IsLineEnd t (max j r.taken) d → d + 1 < length t → IsDataEnd t d e →
    st.opened ≤ r.statement.opened + 1 → st.closed ≤ r.statement.closed + 1 → IsAhead t r (data_found j d e st)
data_moves t r k j d e st place at line some end opened closed =
    let bounds = data_bounds t d e end some in
    record {
      at = at.before;
      place = record { at = at.within; taken = bounds.1; opened = omega (arith, place.opened, at.before); closed = omega (arith, place.closed, at.before) };
      begun = bounds.0;
      some = some;
      within = bounds.1;
      lines = omega (arith, bounds.0, line.begun);
      whole = λ utf8. (after_feed t (max j r.taken) d utf8 line some, data_whole t d e utf8 end);
    }

-- ---- commands that end a statement

abbrev pub ending_found : Reading → ℕ → Statement → Found
ending_found r e st = record { part = record { kind = Ending; from = r.at; to = e }; next = record { at = e; taken = r.taken; statement = st } }

pub ending_goes : (t : Text) (r : Reading) (e : ℕ) (st : Statement) (ms : List Mark) → r.statement ≡ summary ms → begins_command t r.at ≡ false → is_ending_next t r ≡ true → IsLineEnd t r.at e →
    st ≡ summary [] → GoesPast t (state t r ms) (ending_found r e st)
ending_goes t r e st ms h none is line new = ([], new, λ ps rest. ending (state t r ms) e ps none (an_ending t r ms h is) line rest)

pub ending_moves : (t : Text) (r : Reading) (e : ℕ) (st : Statement) → IsPlace t r → is_ending_next t r ≡ true → r.at < length t → IsLineEnd t r.at e → st.opened ≡ 0 → st.closed ≡ 0 →
    IsAhead t r (ending_found r e st)
ending_moves t r e st place is within line opened closed =
    let backslash = is_ending_backslash t r.at (and_parts (begins_ending t r.at) (not (r.statement.begins_copy && r.statement.has_from_stdin)) is).0 in
    record {
      at = command_some t r.at e backslash within line;
      place = record { at = line.within; taken = place.taken; opened = omega arith; closed = omega arith };
      begun = line.begun;
      some = within;
      within = line.within;
      lines = omega arith;
      whole = λ utf8. (IsCharBoundary-before_ascii t r.at within (omega arith), line_whole t r.at e utf8 line);
    }

-- ---- bodies

abbrev pub body_found : Reading → ℕ → Found
body_found r e = record { part = record { kind = Body; from = r.at; to = e }; next = record { at = e; taken = r.taken; statement = r.statement } }

begins : (t : Text) (r : Reading) (ms : List Mark) → r.statement ≡ summary ms → (b : IsAtBody t r) → begins_body ms (mark_at t r.at b.kind b.end) ≡ true
begins t r ms h b = body_same r.statement ms (mark_at t r.at b.kind b.end) h ∙ b.begins

pub body_goes : (t : Text) (r : Reading) (e : ℕ) (ms : List Mark) → r.statement ≡ summary ms → is_command_next t r ≡ false → IsAtBody t r → IsBody t r.at (Some e) → GoesPast t (state t r ms) (body_found r e)
body_goes t r e ms h plain b is = (ms, h, λ ps rest. body (state t r ms) b.kind b.end e ps (no_command t r ms h plain) b.token (begins t r ms h b) is rest)

pub endless_goes : (t : Text) (r : Reading) (ms : List Mark) → r.statement ≡ summary ms → is_command_next t r ≡ false → IsAtBody t r → IsBody t r.at None → Reads (state t r ms) []
endless_goes t r ms h plain b is = endless (state t r ms) b.kind b.end (no_command t r ms h plain) b.token (begins t r ms h b) is

pub body_moves : (t : Text) (r : Reading) (e : ℕ) → IsPlace t r → IsAtBody t r → r.at < e → e ≤ length t → (IsUtf8 t → IsCharBoundary t e) → IsAhead t r (body_found r e)
body_moves t r e place b less within whole =
    let m = mark_at t r.at b.kind b.end in
    let word = (and_parts (is_atomic m) (r.statement.ends_in_begin && is_whole r.statement.lead) b.begins).0 in
    record {
      at = less;
      place = record { at = within; taken = place.taken; opened = omega (arith, place.opened); closed = omega (arith, place.closed) };
      begun = omega arith;
      some = omega arith;
      within = within;
      lines = omega arith;
      whole = λ utf8. (atomic_whole t r.at b.end b.kind b.token word, whole utf8);
    }

-- ---- where reading begins

abbrev at_start : Reading
at_start = record { at = 0; taken = 0; statement = summary [] }

pub start_found : (t b : Text) (r : Reading) (next : Option Found) → b ≡ t → r.at ≡ 0 → r.taken ≡ 0 → r.statement ≡ summary [] → Finds b r next → FoundIs t (start t) next
start_found t b r next same at taken none finds =
    let is : r ≡ at_start = λ i. record { at = at i; taken = taken i; statement = none i } in
    let here : Finds b at_start next = subst (λ (x : Reading). Finds b x next) is finds in
    let there : Finds t at_start next = subst (λ (x : Text). Finds x at_start next) same here in
    there [] refl
