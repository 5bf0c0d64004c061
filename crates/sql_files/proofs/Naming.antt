-- Words, one by one, and the names that they stand for.
use Rattle.std.proofs.Common.{◌≡◌, ◌∙◌, inl, inr, ◌+◌, ◌≤◌, ap, append_assoc, append-nil, arith, refl, subst, sym, ℕ, zero, suc, List, [], ◌∷◌, ◌++◌, length, drop, map, string_bytes, Some, None}
use Rattle.std.proofs.lemmas.List.{drop_all}
use Rattle.std.proofs.lemmas.Option.{slice_get_within}
use Rattle.std.specs.Prelude.{slice_get, String}
use Rattle.std.specs.declared.alloc.Global.{Global}
use Rattle.devices.specs.Contents.{Content, IsListed, KeepsContents, Unknown, Missing, File, Folder}
use Rattle.devices.specs.Refused.{RefusedFits}
use Rattle.devices.specs.SqlNames.{AreSqlNames}
use Rattle.devices.specs.declared.store.FileError.{FileError}
use Rattle.devices.specs.declared.store.FileError.TheVariants as error
use Rattle.squawk_words.specs.Words.{Text}
use Rattle.sql_files.specs.Named.{Adds, AreNamed, StandFor}

-- ---- one word

-- a name that is that of no folder
stands_alone : (content : Content) (before now : ℕ) (word : Text) → IsListed content None → StandFor content before now word (word ∷ [])
stands_alone Unknown before now word listed = tt
stands_alone Missing before now word listed = refl
stands_alone (File all) before now word listed = refl
stands_alone (Folder inner) before now word listed = absurd (let e : None ≡ Some inner = listed in cc)

pub adds_alone : (content : Content) (before now : ℕ) (word : Text) (old new : List Text) → IsListed content None → new ≡ old ++ word ∷ [] → Adds content before now word old new
adds_alone content before now word old new listed e = record { front = word ∷ []; stand = stands_alone content before now word listed; appended = e }

-- an error other than a lack of memory
stands_refused : (content : Content) (err : FileError) (before now : ℕ) (word : Text) → (err ≡ error.NoMemory → ⊥) → RefusedFits err content before now
    → StandFor content before now word (word ∷ [])
stands_refused Unknown err before now word other fits = tt
stands_refused Missing err before now word other fits = refl
stands_refused (File all) err before now word other fits = refl
stands_refused (Folder inner) error.Missing before now word other fits = absurd fits
stands_refused (Folder inner) error.Fault before now word other fits = inr (refl, fits)
stands_refused (Folder inner) error.TooLong before now word other fits = absurd fits
stands_refused (Folder inner) error.NoMemory before now word other fits = absurd (other refl)

pub adds_refused : (content : Content) (err : FileError) (before now : ℕ) (word : Text) (old new : List Text) → (err ≡ error.NoMemory → ⊥) → RefusedFits err content before now
    → new ≡ old ++ word ∷ [] → Adds content before now word old new
adds_refused content err before now word old new other fits e = record { front = word ∷ []; stand = stands_refused content err before now word other fits; appended = e }

stand_listed : (content : Content) (before now : ℕ) (word : Text) (names kept : List (String Global)) → IsListed content (Some (map string_bytes names)) → AreSqlNames names kept
    → StandFor content before now word (map string_bytes kept)
stand_listed Unknown before now word names kept listed are = tt
stand_listed Missing before now word names kept listed are = absurd (let e : Some (map string_bytes names) ≡ None = listed in cc)
stand_listed (File all) before now word names kept listed are = absurd (let e : Some (map string_bytes names) ≡ None = listed in cc)
stand_listed (Folder inner) before now word names kept listed are =
    let e : Some (map string_bytes names) ≡ Some inner = listed in
    let same : map string_bytes names ≡ inner = cc in
    inl (record { names = names; kept = kept; inner_is = same; front_is = refl; are = are })

pub adds_listed : (content : Content) (before now : ℕ) (word : Text) (names kept : List (String Global)) (old new : List Text) → IsListed content (Some (map string_bytes names)) → AreSqlNames names kept
    → new ≡ old ++ map string_bytes kept → Adds content before now word old new
adds_listed content before now word names kept old new listed are e =
    record { front = map string_bytes kept; stand = stand_listed content before now word names kept listed are; appended = e }

-- ---- all words

drop_at : (words : List Text) (k : ℕ) (word : Text) → slice_get words k ≡ Some word → drop k words ≡ word ∷ drop (k + 1) words
drop_at [] k word e = absurd (omega (arith, slice_get_within [] k word e))
drop_at (first ∷ words) zero word e = let same : first ≡ word = cc in ap (λ w. w ∷ words) same
drop_at (first ∷ words) (suc k) word e = let next : suc k + 1 ≡ suc (k + 1) = omega arith in rw next (drop_at words k word e)

-- with the names of the words that are left, these are the names of all words
abbrev pub GoesOn : (Text → Content) → ℕ → ℕ → List Text → ℕ → List Text → Type 0
GoesOn content before now words k names =
    (last : ℕ) (rest : List Text) → AreNamed content now last (drop k words) rest → AreNamed content before last words (names ++ rest)

pub goes_on : (content now : Text → Content) (f h g : ℕ) (words : List Text) (k : ℕ) (word : Text) (old new : List Text) → slice_get words k ≡ Some word → KeepsContents content now
    → GoesOn content f h words k old → Adds (now word) h g word old new → GoesOn content f g words (k + 1) new
goes_on content now f h g words k word old new at kept so adds last rest named =
    let stand : StandFor (content word) h g word adds.front = subst (λ (c : Content). StandFor c h g word adds.front) (kept word) adds.stand in
    let here : AreNamed content h last (word ∷ drop (k + 1) words) (adds.front ++ rest) = (g, adds.front, rest, refl, stand, named) in
    let all = so last (adds.front ++ rest) (subst (λ (ws : List Text). AreNamed content h last ws (adds.front ++ rest)) (sym (drop_at words k word at)) here) in
    let joined : new ++ rest ≡ old ++ (adds.front ++ rest) = ap (λ ns. ns ++ rest) adds.appended ∙ append_assoc old adds.front rest in
    subst (AreNamed content f last words) (sym joined) all

pub begun : (content : Text → Content) (f : ℕ) (words : List Text) → GoesOn content f f words 0 []
begun content f words last rest named = named

pub all_named : (content : Text → Content) (f g : ℕ) (words : List Text) (k : ℕ) (names : List Text) → length words ≤ k → GoesOn content f g words k names → AreNamed content f g words names
all_named content f g words k names l so =
    let none : drop k words ≡ [] = drop_all k words l in
    let nothing : AreNamed content g g [] [] = (refl, omega arith) in
    subst (AreNamed content f g words) (append-nil names) (so g [] (subst (λ (ws : List Text). AreNamed content g g ws []) (sym none) nothing))
