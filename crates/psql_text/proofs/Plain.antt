-- Texts without anything for psql.
use Rattle.std.proofs.Common.{◌≡◌, Bool, true, false, ◌&&◌, if◌then◌else◌, List, [], ◌∷◌, ◌⊎◌, inl, inr, refl}
use Rattle.std.specs.Prelude.{not}
use Rattle.std.proofs.lemmas.Bool.{and_parts}
use Rattle.sql_lex.specs.sql_token.Token.{Text}
use Rattle.psql_text.specs.Lines.{begins_ending}
use Rattle.psql_text.specs.Marks.{is_atomic, is_copy_stdin, is_create, is_nothing, is_or, ends_in_begin, is_replace, is_routine, is_stdin, is_whole, begins_body, begins_copy, has_from_stdin, ends_statement, lead_after, lead_of, marks_after}
use Rattle.psql_text.specs.Psql.{State, Reads, Passes, start, mark_here, after_token}
use Rattle.psql_text.specs.Psql.Reads.{ends, unclosed, command, ending, token, copy, last, body, endless}
use Rattle.psql_text.specs.Laws.{HasNone, IsPlain}
use Rattle.psql_text.specs.declared.lead.Lead.{Lead}
use Rattle.psql_text.specs.declared.lead.Lead.TheVariants as lead
use Rattle.psql_text.specs.declared.mark.Mark.{Mark}
use Rattle.psql_text.specs.declared.part.Part.{Part}

false_true : {P : Type 0} (b : Bool) → b ≡ true → b ≡ false → P
false_true b p q = cc

-- ---- no COPY .. FROM STDIN

none_left : (a b : Bool) (ms : List Mark) (m : Mark) → has_from_stdin ms ≡ false → is_stdin m ≡ false → has_from_stdin (if a then ms else (if b then [] else m ∷ ms)) ≡ false
none_left true b ms m h n = h
none_left false true ms m h n = refl
none_left false false ms m h n = rw n h

stays_none : (ms : List Mark) (m : Mark) → has_from_stdin ms ≡ false → is_stdin m ≡ false → has_from_stdin (marks_after ms m) ≡ false
stays_none ms m h n = none_left (is_nothing m) (ends_statement ms m) ms m h n

no_copy : (a b c : Bool) → c ≡ false → (a && (b && c)) ≡ false
no_copy true true c h = h
no_copy true false c h = refl
no_copy false b c h = refl

-- ---- no body

-- no word of the text is FUNCTION or PROCEDURE, nor was one, or none is ATOMIC
abbrev NoBody : Text → List Mark → Type 0
NoBody t ms = (HasNone t is_routine × (is_whole (lead_of ms) ≡ false)) ⊎ HasNone t is_atomic

neither_whole : (b : Bool) (x y : Lead) → is_whole x ≡ false → is_whole y ≡ false → is_whole (if b then x else y) ≡ false
neither_whole true x y p q = p
neither_whole false x y p q = q

not_whole : (l : Lead) (m : Mark) → is_whole l ≡ false → is_routine m ≡ false → is_whole (lead_after l m) ≡ false
not_whole lead.Empty m h n = neither_whole (is_create m) lead.Create lead.Other refl refl
not_whole lead.Create m h n = rw n (neither_whole (is_or m) lead.CreateOr lead.Other refl refl)
not_whole lead.CreateOr m h n = neither_whole (is_replace m) lead.CreateOrReplace lead.Other refl refl
not_whole lead.CreateOrReplace m h n = rw n refl
not_whole lead.Routine m h n = h
not_whole lead.Other m h n = refl

still_not_whole : (a b : Bool) (ms : List Mark) (m : Mark) → is_whole (lead_of ms) ≡ false → is_routine m ≡ false → is_whole (lead_of (if a then ms else (if b then [] else m ∷ ms))) ≡ false
still_not_whole true b ms m h n = h
still_not_whole false true ms m h n = refl
still_not_whole false false ms m h n = not_whole (lead_of ms) m h n

no_body_after : (t : Text) (ms : List Mark) (m : Mark) → NoBody t ms → (HasNone t is_routine → is_routine m ≡ false) → NoBody t (marks_after ms m)
no_body_after t ms m (inl p) h = inl (p.0, still_not_whole (is_nothing m) (ends_statement ms m) ms m p.1 (h p.0))
no_body_after t ms m (inr p) h = inr p

no_begin : (t : Text) (ms : List Mark) (m : Mark) → NoBody t ms → (HasNone t is_atomic → is_atomic m ≡ false) → begins_body ms m ≡ false
no_begin t ms m (inl p) h = no_copy (is_atomic m) (ends_in_begin ms) (is_whole (lead_of ms)) p.1
no_begin t ms m (inr p) h = rw (h p) refl

-- ---- readings

plain_reads : (s : State) (ps : List Part) → IsPlain s.text → has_from_stdin s.marks ≡ false → NoBody s.text s.marks → Reads s ps → ps ≡ []
plain_reads s _ plain h g (ends _ p) = refl
plain_reads s _ plain h g (unclosed _ p) = refl
plain_reads s _ plain h g (command _ e ps c l r) = false_true _ c (plain.commands s.at)
plain_reads s _ plain h g (ending _ e ps c i l r) =
    false_true _ (and_parts (begins_ending s.text s.at) (not (is_copy_stdin s.marks)) i).0 (plain.endings s.at)
plain_reads s ps plain h g (token _ k j _ c a b n r) =
    let here = mark_here s k j in
    plain_reads (after_token s k j) ps plain (stays_none s.marks here h (plain.stdin s.at j k a)) (no_body_after s.text s.marks here g (λ none. none s.at j k a)) r
plain_reads s _ plain h g (copy _ k j d e ps c a is l m n r) =
    false_true _ is (no_copy (ends_statement s.marks (mark_here s k j)) (begins_copy s.marks) (has_from_stdin s.marks) h)
plain_reads s ps plain h g (last _ k j d _ c a is l n r) =
    false_true _ is (no_copy (ends_statement s.marks (mark_here s k j)) (begins_copy s.marks) (has_from_stdin s.marks) h)
plain_reads s _ plain h g (body _ k j e ps c a b w r) = false_true _ b (no_begin s.text s.marks (mark_here s k j) g (λ none. none s.at j k a))
plain_reads s _ plain h g (endless _ k j c a b w) = refl

none_begun : (t : Text) → HasNone t is_routine ⊎ HasNone t is_atomic → NoBody t []
none_begun t (inl p) = inl (p, refl)
none_begun t (inr p) = inr p

pub nothing_read : (t : Text) (ps : List Part) → IsPlain t → Passes t ps → ps ≡ []
nothing_read t ps plain reads = plain_reads (start t) ps plain refl (none_begun t plain.bodies) reads
