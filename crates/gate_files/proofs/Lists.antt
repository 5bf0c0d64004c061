-- Files, one by one.
use Rattle.std.proofs.Common.{◌≡◌, ◌∙◌, ◌+◌, ◌<◌, ◌≤◌, ◌^◌, ap, arith, subst, sym, ℕ, zero, suc, List, [], ◌∷◌, ◌++◌, length, take, drop, map, string_bytes, Some}
use Rattle.std.proofs.lemmas.List.{length-take-le, take_all}
use Rattle.std.proofs.lemmas.Option.{slice_get_within}
use Rattle.std.proofs.lemmas.Str.{utf8_valid_len_le}
use Rattle.std.specs.Prelude.{slice_get, String}
use Rattle.std.specs.Str.Lossy.{utf8_valid_len}
use Rattle.checked_file.specs.Files.{readable_of}
use Rattle.std.specs.declared.alloc.Global.{Global}
use Rattle.sql_files.specs.devices.Contents.{Content, KeepsContents}
use Rattle.checked_file.specs.source_file.declared.refusal.Refusal.{Refusal}
use Rattle.checked_file.specs.source_file.declared.refusal.Refusal.TheVariants as refusal
use Rattle.sql_files.specs.devices.Faults.{Rose}
use Rattle.sql_files.specs.squawk_words.Words.{Text}
use Rattle.gate_files.specs.declared.read.MigrationFile.{MigrationFile}
use Rattle.gate_files.specs.declared.read.Unread.{Unread}
use Rattle.gate_files.specs.Read.{AreRead, IsFirstUnread, IsRead, IsUnread}

-- ---- lists

pub take_at : (names : List Text) (k : ℕ) (name : Text) → slice_get names k ≡ Some name → take (k + 1) names ≡ take k names ++ name ∷ []
take_at [] k name e = absurd (omega (arith, slice_get_within [] k name e))
take_at (first ∷ names) zero name e = let same : first ≡ name = cc in ap (λ n. n ∷ []) same
take_at (first ∷ names) (suc k) name e =
    let next : suc k + 1 ≡ suc (k + 1) = omega arith in
    rw next (ap (λ ns. first ∷ ns) (take_at names k name e))

split_at : (names : List Text) (k : ℕ) (name : Text) → slice_get names k ≡ Some name → names ≡ take k names ++ name ∷ drop (k + 1) names
split_at [] k name e = absurd (omega (arith, slice_get_within [] k name e))
split_at (first ∷ names) zero name e = let same : first ≡ name = cc in ap (λ n. n ∷ names) same
split_at (first ∷ names) (suc k) name e =
    let next : suc k + 1 ≡ suc (k + 1) = omega arith in
    rw next (ap (λ ns. first ∷ ns) (split_at names k name e))

map_push : (given : List (String Global)) (one : String Global) (name : Text) → string_bytes one ≡ name → map string_bytes (given ++ one ∷ []) ≡ map string_bytes given ++ name ∷ []
map_push [] one name e = ap (λ n. n ∷ []) e
map_push (first ∷ given) one name e = ap (λ ns. string_bytes first ∷ ns) (map_push given one name e)

-- one name more was copied
pub next_copied : (names : List Text) (i : ℕ) (name : Text) (given new : List (String Global)) (one : String Global) → slice_get names i ≡ Some name → string_bytes one ≡ name
    → new ≡ given ++ one ∷ [] → map string_bytes given ≡ take i names → map string_bytes new ≡ take (i + 1) names
next_copied names i name given new one at e items so =
    ap (λ (xs : List (String Global)). map string_bytes xs) items ∙ (map_push given one name e ∙ (ap (λ ns. ns ++ name ∷ []) so ∙ sym (take_at names i name at)))

pub all_taken : (names : List Text) (i : ℕ) (given : List Text) → length names ≤ i → given ≡ take i names → given ≡ names
all_taken names i given l e = e ∙ take_all i names l

-- ---- files

read_more : (content : Text → Content) (names : List Text) (name : Text) (files : List MigrationFile) (file : MigrationFile) → AreRead content names files
    → IsRead (content name) name file → AreRead content (names ++ name ∷ []) (files ++ file ∷ [])
read_more content [] name [] file c d = (d, tt)
read_more content [] name (other ∷ files) file c d = absurd c
read_more content (other ∷ names) name [] file c d = absurd c
read_more content (other ∷ names) name (first ∷ files) file c d = (c.0, read_more content names name files file c.1 d)

-- one file more was read
pub next_read : (content now : Text → Content) (names : List Text) (i : ℕ) (name : Text) (files new : List MigrationFile) (file : MigrationFile) → slice_get names i ≡ Some name
    → KeepsContents content now → new ≡ files ++ file ∷ [] → AreRead content (take i names) files → IsRead (now name) name file → AreRead content (take (i + 1) names) new
next_read content now names i name files new file at kept items so is =
    let here : IsRead (content name) name file = subst (λ (c : Content). IsRead c name file) (kept name) is in
    subst (λ (fs : List MigrationFile). AreRead content (take (i + 1) names) fs) (sym items)
    (subst (λ (ns : List Text). AreRead content ns (files ++ file ∷ [])) (sym (take_at names i name at)) (read_more content (take i names) name files file so here))

pub all_read : (content : Text → Content) (names : List Text) (i : ℕ) (files : List MigrationFile) → length names ≤ i → AreRead content (take i names) files → AreRead content names files
all_read content names i files l so = subst (λ (ns : List Text). AreRead content ns files) (take_all i names l) so

-- ---- the first file that was not read

rose_wider : (f g h k : ℕ) → f ≤ h → k ≤ g → Rose h k → Rose f g
rose_wider f g h k a b r = omega arith

unread_wider : (content : Content) (f g h k : ℕ) (front : Text) (r : Refusal) → f ≤ h → k ≤ g → IsUnread content h k front r → IsUnread content f g front r
unread_wider content f g h k front refusal.Missing a b u = u
unread_wider content f g h k front refusal.Unreadable a b u = (rose_wider f g h k a b u.0, u.1)
unread_wider content f g h k front refusal.TooLong a b u = u
unread_wider content f g h k front (refusal.NotUtf8 at) a b u = u
unread_wider content f g h k front (refusal.Unterminated at) a b u = u
unread_wider content f g h k front (refusal.Syntax at) a b u = u

pub first_unread : (content now : Text → Content) (f h g : ℕ) (names : List Text) (i : ℕ) (name : Text) (files : List MigrationFile) (unread : Unread) → slice_get names i ≡ Some name
    → KeepsContents content now → f ≤ h → AreRead content (take i names) files → unread.name ≡ name → IsUnread (now name) h g unread.front unread.refusal
    → length unread.front < 2 ^ 32 → IsFirstUnread content f g names unread
first_unread content now f h g names i name files unread at kept a so e u short =
    let here : IsUnread (content name) h g unread.front unread.refusal = subst (λ (c : Content). IsUnread c h g unread.front unread.refusal) (kept name) u in
    let wide : IsUnread (content name) f g unread.front unread.refusal = unread_wider (content name) f g h g unread.front unread.refusal a (omega arith) here in
    record {
      earlier = take i names;
      later = drop (i + 1) names;
      files = files;
      here = split_at names i name at ∙ ap (λ (n : Text). take i names ++ n ∷ drop (i + 1) names) (sym e);
      were = so;
      told = subst (λ (n : Text). IsUnread (content n) f g unread.front unread.refusal) (sym e) wide;
      short = short;
    }

-- ---- one file

pub front_short : (bytes front : Text) → front ≡ readable_of bytes → length bytes < 2 ^ 32 → length front < 2 ^ 32
front_short bytes front e short =
    let long : length front ≡ length (readable_of bytes) = ap length e in
    omega (arith, long, length-take-le (utf8_valid_len bytes) bytes (utf8_valid_len_le bytes), utf8_valid_len_le bytes)
