-- How far the parts of a text were found.
use Rattle.std.proofs.Common.{◌≡◌, ℕ, ◌+◌, ◌-◌, ◌<◌, ◌≤◌, List, [], ◌∷◌, ◌++◌, length, append_assoc, refl, sym, ap, ◌∙◌, subst, arith, Some, None}
use Rattle.std.specs.Prelude.{All, Option, IfSome}
use Rattle.std.proofs.lemmas.List.{append-nil}
use Rattle.std.proofs.lemmas.List.Elements.{All-append, All-cons, All-nil}
use Rattle.psql_text.specs.Psql.{State, Reads, Passes, start, blanked, blank_all}
use Rattle.psql_text.specs.Reading.{IsPlace, IsAhead, FoundIs, Finds, GoesPast, state}
use Rattle.psql_text.specs.declared.part.Part.{Part}
use Rattle.psql_text.specs.declared.reading.Reading.{Reading}
use Rattle.psql_text.specs.declared.reading.Found.{Found}
use Rattle.psql_text.proofs.Blanks.{length-blanked}
use Rattle.psql_edit.specs.Exchange.{IsPartOf}

-- The parts so far are blank in the text, the next one is ahead, and with those that are still to come they are the parts of t.
pub record Going (t text : List ℕ) (parts : List Part) (next : Option Found) : Type 0 where
  pub same : length text ≡ length t
  pub within : All (IsPartOf t) parts
  pub ahead : IfSome next (λ f. (r : Reading) × IsAhead text r f)
  pub from : State
  pub found : FoundIs text from next
  pub leads : (ps : List Part) → Reads from ps → Passes t (parts ++ ps)
  pub blank : text ≡ blank_all parts t

-- how much is left
abbrev pub left_of : List ℕ → Option Found → ℕ
left_of t None = 0
left_of t (Some f) = 1 + (length t - f.next.at)

some_ahead : (t : List ℕ) (r : Reading) (next : Option Found) → IfSome next (IsAhead t r) → IfSome next (λ f. (r : Reading) × IsAhead t r f)
some_ahead t r None h = tt
some_ahead t r (Some f) h = (r, h)

pub begins : (t text : List ℕ) (r : Reading) (next : Option Found) → text ≡ t → FoundIs t (start t) next → IfSome next (IsAhead t r) → Going t text [] next
begins t text r next same found ahead = record {
  same = ap length same;
  within = All-nil (IsPartOf t);
  ahead = subst (λ (x : List ℕ). IfSome next (λ f. (r : Reading) × IsAhead x r f)) (sym same) (some_ahead t r next ahead);
  from = start t;
  found = subst (λ (x : List ℕ). FoundIs x (start t) next) (sym same) found;
  leads = λ ps r. r;
  blank = same;
}

blank_more : (parts : List Part) (p : Part) (t : List ℕ) → blank_all (parts ++ p ∷ []) t ≡ blanked p (blank_all parts t)
blank_more [] p t = refl
blank_more (q ∷ parts) p t = blank_more parts p (blanked q t)

pub goes_on : (t text u : List ℕ) (parts more : List Part) (f : Found) (next : Option Found) → Going t text parts (Some f) → more ≡ parts ++ f.part ∷ [] → u ≡ blanked f.part text →
    Finds u f.next next → IfSome next (IsAhead u f.next) → Going t u more next
goes_on t text u parts more f next going one_more blank finds ahead =
    let old = going.ahead.1 in
    let ms = going.found.0 in
    let place : IsPartOf t f.part = (old.begun, omega (arith, old.within, going.same)) in
    let now : u ≡ blank_all (parts ++ f.part ∷ []) t = blank ∙ (ap (blanked f.part) going.blank ∙ sym (blank_more parts f.part t)) in
    let both : Going t u (parts ++ f.part ∷ []) next = record {
      same = ap length blank ∙ length-blanked f.part text ∙ going.same;
      within = All-append (IsPartOf t) parts (f.part ∷ []) going.within (All-cons (IsPartOf t) f.part [] place (All-nil (IsPartOf t)));
      ahead = some_ahead u f.next next ahead;
      from = state u f.next ms;
      found = finds ms going.found.1;
      leads = λ ps r.
          let all = going.leads (f.part ∷ ps) (going.found.2 ps (subst (λ (x : List ℕ). Reads (state x f.next ms) ps) blank r)) in
          subst (λ (x : List Part). Passes t x) (sym (append_assoc parts (f.part ∷ []) ps)) all;
      blank = now;
    } in
    subst (λ (x : List Part). Going t u x next) (sym one_more) both

pub place_after : (t text u : List ℕ) (parts : List Part) (f : Found) → Going t text parts (Some f) → u ≡ blanked f.part text → IsPlace u f.next
place_after t text u parts f going blank =
    let same : length u ≡ length text = ap length blank ∙ length-blanked f.part text in
    let place = going.ahead.1.place in
    record { at = omega (arith, place.at); taken = omega (arith, place.taken); opened = place.opened; closed = place.closed }

pub part_within : (t text : List ℕ) (parts : List Part) (f : Found) → Going t text parts (Some f) → (f.part.from ≤ f.part.to) × (f.part.to ≤ length text)
part_within t text parts f going = (going.ahead.1.begun, going.ahead.1.within)

pub less_left : (t text u : List ℕ) (parts : List Part) (f : Found) (next : Option Found) → Going t text parts (Some f) → u ≡ blanked f.part text → IfSome next (IsAhead u f.next) →
    left_of t next < left_of t (Some f)
less_left t text u parts f None going blank h = omega arith
less_left t text u parts f (Some g) going blank h =
    let same : length u ≡ length text = ap length blank ∙ length-blanked f.part text in
    omega (arith, h.at, h.place.at, going.same)

pub all_found : (t text : List ℕ) (parts : List Part) → Going t text parts None → Passes t parts
all_found t text parts going = subst (λ (x : List Part). Passes t x) (append-nil parts) (going.leads [] going.found)
