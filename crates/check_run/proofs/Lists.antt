-- Files, one by one.
use Rattle.std.proofs.Common.{◌≡◌, inl, inr, ◌+◌, ◌≤◌, ap, arith, subst, sym, ℕ, zero, suc, List, [], ◌∷◌, ◌++◌, length, take, Some}
use Rattle.std.proofs.lemmas.List.{take_all}
use Rattle.std.proofs.lemmas.Option.{slice_get_within}
use Rattle.std.specs.Prelude.{slice_get}
use Rattle.checked_file.specs.declared.answer.Answer.{Answer}
use Rattle.checked_file.specs.declared.answer.Answer.TheVariants.{Reports, Partial, Refused}
use Rattle.checked_file.specs.declared.checked.Checked.{Checked}
use Rattle.checked_file.specs.declared.checked.Linted.{Linted}
use Rattle.checked_file.specs.Files.{linted_of}
use Rattle.sql_files.specs.devices.Contents.{Content, KeepsContents}
use Rattle.checked_file.specs.source_file.declared.refusal.Refusal.TheVariants as refusal
use Rattle.sql_files.specs.devices.Faults.{Rose}
use Rattle.sql_files.specs.squawk_words.Words.{Text}
use Rattle.check_run.specs.Checks.{Answers, AreChecked, IsChecked, IsUnread}

-- ---- a longer time

rose_wider : (f g h k : ℕ) → f ≤ h → k ≤ g → Rose h k → Rose f g
rose_wider f g h k a b r = omega arith

unread_wider : (content : Content) (f g h k : ℕ) (answer : Answer) → f ≤ h → k ≤ g → IsUnread content h k answer → IsUnread content f g answer
unread_wider content f g h k (Reports reports) a b u = u
unread_wider content f g h k (Partial p) a b u = u
unread_wider content f g h k (Refused refusal.Missing) a b u = u
unread_wider content f g h k (Refused refusal.Unreadable) a b u = rose_wider f g h k a b u
unread_wider content f g h k (Refused refusal.TooLong) a b u = u
unread_wider content f g h k (Refused (refusal.NotUtf8 at)) a b u = u
unread_wider content f g h k (Refused (refusal.Unterminated at)) a b u = u
unread_wider content f g h k (Refused (refusal.Syntax at)) a b u = u

-- the same of a linter from which these answers come, and over a longer time
checked_wider : (A B : Answers) (content : Content) (f g h k : ℕ) (name : Text) (file : Checked) → ((bytes : List ℕ) (linted : Linted) → B bytes linted → A bytes linted)
    → f ≤ h → k ≤ g → IsChecked B content h k name file → IsChecked A content f g name file
checked_wider A B content f g h k name file same a b c =
    record {
      named = c.named;
      came = elim c.came [
        | inl r ↦ inl (record { bytes = r.bytes; held = r.held; answer = same r.bytes (linted_of file) r.answer })
        | inr u ↦ inr (record { why = unread_wider content f g h k file.answer a b u.why; empty = u.empty })
      ];
    }

-- the same of a store that holds the same, from an earlier time on
pub all_moved : (A : Answers) (content now : Text → Content) (f g h : ℕ) (names : List Text) (files : List Checked) → KeepsContents content now → f ≤ h
    → AreChecked A now h g names files → AreChecked A content f g names files
all_moved A content now f g h [] [] kept b c = omega (arith, b, c)
all_moved A content now f g h [] (file ∷ files) kept b c = c
all_moved A content now f g h (name ∷ names) [] kept b c = c
all_moved A content now f g h (name ∷ names) (file ∷ files) kept b (mid, this, more) =
    let here : IsChecked A (content name) h mid name file = subst (λ (x : Content). IsChecked A x h mid name file) (kept name) this in
    (mid, checked_wider A A (content name) f mid h mid name file (λ bytes answer x. x) b (omega arith) here, all_moved A content now mid g mid names files kept (omega arith) more)

-- ---- one file more

all_more : (A : Answers) (content : Text → Content) (f h k : ℕ) (names : List Text) (name : Text) (files : List Checked) (file : Checked) → AreChecked A content f h names files
    → IsChecked A (content name) h k name file → AreChecked A content f k (names ++ name ∷ []) (files ++ file ∷ [])
all_more A content f h k [] name [] file c d =
    (k, checked_wider A A (content name) f k h k name file (λ bytes answer x. x) c (omega arith) d, omega arith)
all_more A content f h k [] name (other ∷ files) file c d = absurd c
all_more A content f h k (other ∷ names) name [] file c d = absurd c
all_more A content f h k (other ∷ names) name (first ∷ files) file (mid, this, more) d = (mid, this, all_more A content mid h k names name files file more d)

take_at : (names : List Text) (k : ℕ) (name : Text) → slice_get names k ≡ Some name → take (k + 1) names ≡ take k names ++ name ∷ []
take_at [] k name e = absurd (omega (arith, slice_get_within [] k name e))
take_at (first ∷ names) zero name e = let same : first ≡ name = cc in ap (λ n. n ∷ []) same
take_at (first ∷ names) (suc k) name e =
    let next : suc k + 1 ≡ suc (k + 1) = omega arith in
    rw next (ap (λ ns. first ∷ ns) (take_at names k name e))

pub next_checked : (A B : Answers) (content now : Text → Content) (f h k : ℕ) (names : List Text) (i : ℕ) (name : Text) (files : List Checked) (file : Checked) → slice_get names i ≡ Some name
    → AreChecked A content f h (take i names) files → KeepsContents content now → ((bytes : List ℕ) (linted : Linted) → B bytes linted → A bytes linted)
    → IsChecked B (now name) h k name file → AreChecked A content f k (take (i + 1) names) (files ++ file ∷ [])
next_checked A B content now f h k names i name files file at so kept same c =
    let here : IsChecked B (content name) h k name file = subst (λ (x : Content). IsChecked B x h k name file) (kept name) c in
    let this = checked_wider A B (content name) h k h k name file same (omega arith) (omega arith) here in
    subst (λ (ns : List Text). AreChecked A content f k ns (files ++ file ∷ [])) (sym (take_at names i name at))
    (all_more A content f h k (take i names) name files file so this)

pub all_checked : (A : Answers) (content : Text → Content) (f g : ℕ) (names : List Text) (i : ℕ) (files : List Checked) → length names ≤ i → AreChecked A content f g (take i names) files
    → AreChecked A content f g names files
all_checked A content f g names i files l c = subst (λ (ns : List Text). AreChecked A content f g ns files) (take_all i names l) c
