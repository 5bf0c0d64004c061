-- How far the parts of a text were made blank.
use Rattle.std.proofs.Common.{◌≡◌, ℕ, ◌+◌, ◌-◌, ◌<◌, ◌≤◌, List, [], ◌∷◌, length, refl, sym, ap, ◌∙◌, subst, arith, inl, inr, Some, None}
use Rattle.std.specs.Prelude.{◌⊎◌, Option, IfSome}
use Rattle.std.specs.Str.{IsUtf8}
use Rattle.sql_lex.specs.sql_token.Token.{Text}
use Rattle.psql_text.specs.Count.{lines_between, commands_of, data_of, bodies_of}
use Rattle.psql_text.specs.Psql.{State, Reads, Passes, start, blanked, blank_all}
use Rattle.psql_text.specs.Reading.{IsPlace, IsAhead, FoundIs, Finds, GoesPast, state, at_most}
use Rattle.psql_text.specs.Told.{StartsAt, commands_in, data_in, bodies_in}
use Rattle.psql_text.specs.declared.part.Part.{Part}
use Rattle.psql_text.specs.declared.reading.Reading.{Reading}
use Rattle.psql_text.specs.declared.reading.Found.{Found}
use Rattle.psql_text.specs.declared.blank.Counts.{Counts}
use Rattle.psql_text.proofs.Blanks.{length-blanked, utf8-blanked}

-- nothing was made blank yet, or the parts begin with the first one
abbrev pub Begun : Found → Option Found → List Part → List Part → Type 0
Begun first next ps qs = ((qs ≡ ps) × (next ≡ Some first)) ⊎ StartsAt qs first.part.from

-- the parts qs of the text t, where ps are still to come
pub record IsWhole (t : Text) (first : Found) (text : Text) (counts : Counts) (next : Option Found) (ps qs : List Part) : Type 0 where
  pub passes : Passes t qs
  pub blank : blank_all qs t ≡ blank_all ps text
  pub begun : Begun first next ps qs
  pub commands : commands_in qs ≡ counts.commands + commands_in ps
  pub data_lines : data_in t qs ≡ counts.data_lines + data_in t ps
  pub bodies : bodies_in qs ≡ counts.bodies + bodies_in ps

pub record IsNext (text : Text) (counts : Counts) (f : Found) : Type 0 where
  pub before : Reading
  pub ahead : IsAhead text before f
  pub commands : counts.commands ≤ before.at
  pub data_lines : counts.data_lines ≤ before.taken
  pub bodies : counts.bodies ≤ before.at

pub record Going (t : Text) (first : Found) (text : Text) (counts : Counts) (next : Option Found) : Type 0 where
  pub same : length text ≡ length t
  pub utf8 : IsUtf8 t → IsUtf8 text
  pub ahead : IfSome next (IsNext text counts)
  pub from : State
  pub found : FoundIs text from next
  pub leads : (ps : List Part) → Reads from ps → (qs : List Part) × IsWhole t first text counts next ps qs

-- how much is left
abbrev pub left_of : Text → Option Found → ℕ
left_of t None = 0
left_of t (Some f) = 1 + (length t - f.next.at)

pub begins : (t text : Text) (first : Found) (counts : Counts) → text ≡ t → counts.commands ≡ 0 → counts.data_lines ≡ 0 → counts.bodies ≡ 0 → GoesPast t (start t) first → (r : Reading) × IsAhead t r first →
    Going t first text counts (Some first)
begins t text first counts same none no_data no_bodies goes ahead = record {
  same = ap length same;
  utf8 = λ utf8. subst (λ (x : Text). IsUtf8 x) (sym same) utf8;
  ahead = record {
    before = ahead.0;
    ahead = subst (λ (x : Text). IsAhead x ahead.0 first) (sym same) ahead.1;
    commands = omega arith;
    data_lines = omega arith;
    bodies = omega arith;
  };
  from = start t;
  found = subst (λ (x : Text). GoesPast x (start t) first) (sym same) goes;
  leads = λ ps r. (
    ps,
    record {
      passes = r;
      blank = ap (blank_all ps) (sym same);
      begun = inl (refl, refl);
      commands = omega arith;
      data_lines = omega arith;
      bodies = omega arith;
    },
  );
}

next_ahead : (text : Text) (counts : Counts) (r : Reading) (next : Option Found) → counts.commands ≤ r.at → counts.data_lines ≤ r.taken → counts.bodies ≤ r.at → IfSome next (IsAhead text r) → IfSome next (IsNext text counts)
next_ahead text counts r None few less bodies h = tt
next_ahead text counts r (Some f) few less bodies h = record { before = r; ahead = h; commands = few; data_lines = less; bodies = bodies }

begun_on : (first f : Found) (next : Option Found) (ps qs : List Part) → Begun first (Some f) (f.part ∷ ps) qs → Begun first next ps qs
begun_on first f next ps qs (inl both) =
    let same : first ≡ f = cc (both.1) in
    inr (subst (λ (x : List Part). StartsAt x first.part.from) (sym both.0) (ap (λ (x : Found). x.part.from) same))
begun_on first f next ps qs (inr at) = inr at

pub goes_on : (t : Text) (first f : Found) (text u : Text) (counts after : Counts) (next : Option Found) → Going t first text counts (Some f) → u ≡ blanked f.part text →
    after.commands ≡ counts.commands + commands_of f.part.kind → after.data_lines ≡ counts.data_lines + data_of f.part.kind (lines_between t f.part.from f.part.to) → after.bodies ≡ counts.bodies + bodies_of f.part.kind →
    after.commands ≤ counts.commands + 1 → after.data_lines ≤ counts.data_lines + at_most f.part → after.bodies ≤ counts.bodies + 1 → Finds u f.next next → IfSome next (IsAhead u f.next) → Going t first u after next
goes_on t first f text u counts after next going blank more more_data more_bodies few few_data few_bodies finds ahead =
    let it = going.ahead in
    let old = it.ahead in
    let ms = going.found.0 in
    record {
      same = ap length blank ∙ length-blanked f.part text ∙ going.same;
      utf8 = λ utf8.
          let had = going.utf8 utf8 in
          let edges = old.whole had in
          subst (λ (x : Text). IsUtf8 x) (sym blank) (utf8-blanked f.part text old.begun old.within had edges.0 edges.1);
      ahead = next_ahead u after f.next next (omega (arith, old.at, it.commands)) (omega (arith, old.lines, it.data_lines)) (omega (arith, old.at, it.bodies)) ahead;
      from = state u f.next ms;
      found = finds ms going.found.1;
      leads = λ ps r.
          let q = going.leads (f.part ∷ ps) (going.found.2 ps (subst (λ (x : Text). Reads (state x f.next ms) ps) blank r)) in (
            q.0,
            record {
              passes = q.1.passes;
              blank = q.1.blank ∙ ap (blank_all ps) (sym blank);
              begun = begun_on first f next ps q.0 q.1.begun;
              commands = omega (arith, q.1.commands, more);
              data_lines = omega (arith, q.1.data_lines, more_data);
              bodies = omega (arith, q.1.bodies, more_bodies);
            },
          );
    }

-- what the next part is to the text
pub part_within : (t : Text) (first f : Found) (text : Text) (counts : Counts) → Going t first text counts (Some f) → (f.part.from < length t) × (f.part.from ≤ f.part.to) × (f.part.to ≤ length text)
part_within t first f text counts going =
    let ahead = going.ahead.ahead in
    (omega (arith, ahead.some, going.same), ahead.begun, ahead.within)

pub few_more : (t : Text) (first f : Found) (text : Text) (counts : Counts) → Going t first text counts (Some f) → (counts.commands + 1 ≤ length t) × (counts.data_lines + at_most f.part ≤ length t) × (counts.bodies + 1 ≤ length t)
few_more t first f text counts going =
    let it = going.ahead in
    let ahead = it.ahead in (
      omega (arith, it.commands, ahead.at, ahead.place.at, going.same),
      omega (arith, it.data_lines, ahead.lines, ahead.place.taken, going.same),
      omega (arith, it.bodies, ahead.at, ahead.place.at, going.same),
    )

pub place_after : (t : Text) (first f : Found) (text u : Text) (counts : Counts) → Going t first text counts (Some f) → u ≡ blanked f.part text → IsPlace u f.next
place_after t first f text u counts going blank =
    let same : length u ≡ length text = ap length blank ∙ length-blanked f.part text in
    let place = going.ahead.ahead.place in
    record { at = omega (arith, place.at); taken = omega (arith, place.taken); opened = place.opened; closed = place.closed }

pub less_left : (t : Text) (first f : Found) (text u : Text) (counts : Counts) (next : Option Found) → Going t first text counts (Some f) → u ≡ blanked f.part text → IfSome next (IsAhead u f.next) →
    left_of t next < left_of t (Some f)
less_left t first f text u counts None going blank h = omega arith
less_left t first f text u counts (Some g) going blank h =
    let same : length u ≡ length text = ap length blank ∙ length-blanked f.part text in
    omega (arith, h.at, h.place.at, going.same)

starts : (first : Found) (ps qs : List Part) → Begun first None ps qs → StartsAt qs first.part.from
starts first ps qs (inl both) = let no = both.1 in cc
starts first ps qs (inr at) = at

abbrev pub IsTold : Text → Found → Text → Counts → Type 0
IsTold t first text counts =
    (ps : List Part) × Passes t ps × (text ≡ blank_all ps t) × StartsAt ps first.part.from × (counts.commands ≡ commands_in ps) × (counts.data_lines ≡ data_in t ps) × (counts.bodies ≡ bodies_in ps)

pub all_told : (t : Text) (first : Found) (text : Text) (counts : Counts) (next : Option Found) → next ≡ None → Going t first text counts next → IsTold t first text counts
all_told t first text counts next is_none given =
    let going = subst (λ (x : Option Found). Going t first text counts x) is_none given in
    let q = going.leads [] going.found in
    (q.0, q.1.passes, sym q.1.blank, starts first [] q.0 q.1.begun, omega (arith, q.1.commands), omega (arith, q.1.data_lines), omega (arith, q.1.bodies))
