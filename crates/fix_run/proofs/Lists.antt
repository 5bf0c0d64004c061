-- Files, one by one.
use Rattle.std.proofs.Common.{◌≡◌, ◌∙◌, inl, inr, ◌+◌, ◌≤◌, ap, append-nil, arith, refl, subst, sym, ℕ, zero, suc, All, List, [], ◌∷◌, ◌++◌, length, take, Some}
use Rattle.std.proofs.lemmas.List.{take_all}
use Rattle.std.proofs.lemmas.List.Elements.{All-push}
use Rattle.std.proofs.lemmas.Option.{slice_get_within}
use Rattle.std.specs.Prelude.{slice_get}
use Rattle.fix_output.specs.devices.Contents.{Content, KeepsContents}
use Rattle.fix_output.specs.declared.file.FixedFile.{FixedFile}
use Rattle.fix_run.specs.declared.outcome.FileOutcome.{FileOutcome}
use Rattle.fix_run.specs.declared.outcome.FileOutcome.TheVariants as outcome
use Rattle.fix_run.specs.Outcomes.{Answers, AreOutcomes, IsOutcome, HaveOutcomes, IsSound, IsSoundOutcome, IsSoundFile, fixed_of, unread_of}
use Rattle.gate_files.specs.declared.read.Unread.{Unread}
use Rattle.gate_files.specs.Read.{IsUnread}
use Rattle.gate_files.specs.source_file.declared.refusal.Refusal.{Refusal}
use Rattle.gate_files.specs.source_file.declared.refusal.Refusal.TheVariants as refusal
use Rattle.fix_output.specs.devices.Faults.{Rose}
use Rattle.gate_files.specs.squawk_words.Words.{Text}

-- ---- a longer time

rose_wider : (f g h k : ℕ) → f ≤ h → k ≤ g → Rose h k → Rose f g
rose_wider f g h k a b r = omega arith

unread_wider : (content : Content) (f g h k : ℕ) (front : Text) (r : Refusal) → f ≤ h → k ≤ g → IsUnread content h k front r → IsUnread content f g front r
unread_wider content f g h k front refusal.Missing a b u = u
unread_wider content f g h k front refusal.Unreadable a b u = (rose_wider f g h k a b u.0, u.1)
unread_wider content f g h k front refusal.TooLong a b u = u
unread_wider content f g h k front (refusal.NotUtf8 at) a b u = u
unread_wider content f g h k front (refusal.Unterminated at) a b u = u
unread_wider content f g h k front (refusal.Syntax at) a b u = u

come_wider : (A : Answers) (content : Content) (f g h k : ℕ) (name : Text) (c : FileOutcome) → f ≤ h → k ≤ g → IsOutcome A content h k name c → IsOutcome A content f g name c
come_wider A content f g h k name (outcome.Fixed file) a b is = is
come_wider A content f g h k name (outcome.Unread u) a b (n, why) = (
  n,
  elim why [
    | inl x ↦ inl (unread_wider content f g h k u.front u.refusal a b x)
    | inr x ↦ inr x
  ],
)

-- the same of a store that holds the same, from an earlier time on
all_moved : (A : Answers) (content now : Text → Content) (f g h : ℕ) (names : List Text) (cs : List FileOutcome) → KeepsContents content now → f ≤ h
    → AreOutcomes A now h g names cs → AreOutcomes A content f g names cs
all_moved A content now f g h [] [] kept a are = omega (arith, a, are)
all_moved A content now f g h [] (c ∷ cs) kept a are = are
all_moved A content now f g h (name ∷ names) [] kept a are = are
all_moved A content now f g h (name ∷ names) (c ∷ cs) kept a (mid, this, more) =
    let here : IsOutcome A (content name) h mid name c = subst (λ (x : Content). IsOutcome A x h mid name c) (kept name) this in
    (mid, come_wider A (content name) f mid h mid name c a (omega arith) here, all_moved A content now mid g mid names cs kept (omega arith) more)

pub have_moved : (A : Answers) (content now : Text → Content) (f g h : ℕ) (names : List Text) (fixed : List FixedFile) (unread : List Unread) → KeepsContents content now → f ≤ h
    → HaveOutcomes A now h g names fixed unread → HaveOutcomes A content f g names fixed unread
have_moved A content now f g h names fixed unread kept a have = record {
  all = have.all;
  are = all_moved A content now f g h names have.all kept a have.are;
  fixed_are = have.fixed_are;
  unread_are = have.unread_are;
}

-- ---- one file more

all_more : (A : Answers) (content : Text → Content) (f h k : ℕ) (names : List Text) (name : Text) (cs : List FileOutcome) (c : FileOutcome) → AreOutcomes A content f h names cs
    → IsOutcome A (content name) h k name c → AreOutcomes A content f k (names ++ name ∷ []) (cs ++ c ∷ [])
all_more A content f h k [] name [] c are is = (k, come_wider A (content name) f k h k name c are (omega arith) is, omega arith)
all_more A content f h k [] name (other ∷ cs) c are is = absurd are
all_more A content f h k (other ∷ names) name [] c are is = absurd are
all_more A content f h k (other ∷ names) name (first ∷ cs) c (mid, this, more) is = (mid, this, all_more A content mid h k names name cs c more is)

fixed_push : (cs : List FileOutcome) (c : FileOutcome) → fixed_of (cs ++ c ∷ []) ≡ fixed_of cs ++ fixed_of (c ∷ [])
fixed_push [] c = refl
fixed_push (outcome.Fixed file ∷ cs) c = ap (λ fs. file ∷ fs) (fixed_push cs c)
fixed_push (outcome.Unread u ∷ cs) c = fixed_push cs c

unread_push : (cs : List FileOutcome) (c : FileOutcome) → unread_of (cs ++ c ∷ []) ≡ unread_of cs ++ unread_of (c ∷ [])
unread_push [] c = refl
unread_push (outcome.Fixed file ∷ cs) c = unread_push cs c
unread_push (outcome.Unread u ∷ cs) c = ap (λ us. u ∷ us) (unread_push cs c)

have_more : (A : Answers) (content : Text → Content) (f h k : ℕ) (names : List Text) (name : Text) (fixed more : List FixedFile) (unread others : List Unread) (c : FileOutcome)
    → HaveOutcomes A content f h names fixed unread → IsOutcome A (content name) h k name c → more ≡ fixed ++ fixed_of (c ∷ []) → others ≡ unread ++ unread_of (c ∷ [])
    → HaveOutcomes A content f k (names ++ name ∷ []) more others
have_more A content f h k names name fixed more unread others c have is m u = record {
  all = have.all ++ c ∷ [];
  are = all_more A content f h k names name have.all c have.are is;
  fixed_are = m ∙ (ap (λ fs. fs ++ fixed_of (c ∷ [])) have.fixed_are ∙ sym (fixed_push have.all c));
  unread_are = u ∙ (ap (λ us. us ++ unread_of (c ∷ [])) have.unread_are ∙ sym (unread_push have.all c));
}

take_at : (names : List Text) (k : ℕ) (name : Text) → slice_get names k ≡ Some name → take (k + 1) names ≡ take k names ++ name ∷ []
take_at [] k name e = absurd (omega (arith, slice_get_within [] k name e))
take_at (first ∷ names) zero name e = let same : first ≡ name = cc in ap (λ n. n ∷ []) same
take_at (first ∷ names) (suc k) name e =
    let next : suc k + 1 ≡ suc (k + 1) = omega arith in
    rw next (ap (λ ns. first ∷ ns) (take_at names k name e))

-- no file
pub have_none : (A : Answers) (content : Text → Content) (f : ℕ) (fixed : List FixedFile) (unread : List Unread) → fixed ≡ [] → unread ≡ [] → HaveOutcomes A content f f [] fixed unread
have_none A content f fixed unread m u = record { all = []; are = omega arith; fixed_are = m; unread_are = u }

-- one file alone
pub have_one : (A : Answers) (content : Text → Content) (f g : ℕ) (name : Text) (fixed more : List FixedFile) (unread others : List Unread) (c : FileOutcome) → fixed ≡ [] → unread ≡ []
    → IsOutcome A (content name) f g name c → more ≡ fixed ++ fixed_of (c ∷ []) → others ≡ unread ++ unread_of (c ∷ []) → HaveOutcomes A content f g (name ∷ []) more others
have_one A content f g name fixed more unread others c first none is m u =
    have_more A content f f g [] name fixed more unread others c (have_none A content f fixed unread first none) is m u

-- the next of some
pub have_next : (A : Answers) (content now : Text → Content) (f h k : ℕ) (names : List Text) (i : ℕ) (name : Text) (fixed more : List FixedFile) (unread others : List Unread) (c : FileOutcome)
    → slice_get names i ≡ Some name → HaveOutcomes A content f h (take i names) fixed unread → KeepsContents content now → IsOutcome A (now name) h k name c
    → more ≡ fixed ++ fixed_of (c ∷ []) → others ≡ unread ++ unread_of (c ∷ []) → HaveOutcomes A content f k (take (i + 1) names) more others
have_next A content now f h k names i name fixed more unread others c at have kept is m u =
    let here : IsOutcome A (content name) h k name c = subst (λ (x : Content). IsOutcome A x h k name c) (kept name) is in
    subst (λ (ns : List Text). HaveOutcomes A content f k ns more others) (sym (take_at names i name at))
    (have_more A content f h k (take i names) name fixed more unread others c have here m u)

pub have_all : (A : Answers) (content : Text → Content) (f g : ℕ) (names : List Text) (i : ℕ) (fixed : List FixedFile) (unread : List Unread) → length names ≤ i
    → HaveOutcomes A content f g (take i names) fixed unread → HaveOutcomes A content f g names fixed unread
have_all A content f g names i fixed unread l have = subst (λ (ns : List Text). HaveOutcomes A content f g ns fixed unread) (take_all i names l) have

-- ---- soundness

sound_push : (us : List Unread) (c : FileOutcome) → All IsSound us → IsSoundOutcome c → All IsSound (us ++ unread_of (c ∷ []))
sound_push us (outcome.Fixed file) all one = subst (All IsSound) (sym (append-nil us)) all
sound_push us (outcome.Unread u) all one = All-push IsSound us u all one

files_push : (fs : List FixedFile) (c : FileOutcome) → All IsSoundFile fs → IsSoundOutcome c → All IsSoundFile (fs ++ fixed_of (c ∷ []))
files_push fs (outcome.Fixed file) all one = All-push IsSoundFile fs file all one
files_push fs (outcome.Unread u) all one = subst (All IsSoundFile) (sym (append-nil fs)) all

pub files_more : (fs more : List FixedFile) (c : FileOutcome) → more ≡ fs ++ fixed_of (c ∷ []) → All IsSoundFile fs → IsSoundOutcome c → All IsSoundFile more
files_more fs more c e all one = subst (All IsSoundFile) (sym e) (files_push fs c all one)

-- one file more
pub sound_more : (us more : List Unread) (c : FileOutcome) → more ≡ us ++ unread_of (c ∷ []) → All IsSound us → IsSoundOutcome c → All IsSound more
sound_more us more c e all one = subst (All IsSound) (sym e) (sound_push us c all one)
