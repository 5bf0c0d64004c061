-- Names from a store that was used before.
use Rattle.std.proofs.Common.{◌≤◌, arith, inl, inr, subst, ℕ, List, [], ◌∷◌}
use Rattle.devices.specs.Contents.{Content, KeepsContents, Unknown, Missing, File, Folder}
use Rattle.squawk_words.specs.Words.{Text}
use Rattle.sql_files.specs.Named.{AreNamed, StandFor}

-- from an earlier time on
stand_wider : (content : Content) (before first last : ℕ) (word : Text) (front : List Text) → before ≤ first → StandFor content first last word front → StandFor content before last word front
stand_wider Unknown before first last word front later h = h
stand_wider Missing before first last word front later h = h
stand_wider (File all) before first last word front later h = h
stand_wider (Folder inner) before first last word front later h = elim h [ inl are ↦ inl are | inr alone ↦ inr (alone.0, omega (arith, later, alone.1)) ]

pub named_moved : (content now : Text → Content) (before first last : ℕ) (words names : List Text) → KeepsContents content now → before ≤ first → AreNamed now first last words names
    → AreNamed content before last words names
named_moved content now before first last [] names kept later h = (h.0, omega (arith, later, h.1))
named_moved content now before first last (word ∷ words) names kept later (mid, front, rest, same, stand, more) =
    let here : StandFor (content word) first mid word front = subst (λ (c : Content). StandFor c first mid word front) (kept word) stand in
    (mid, front, rest, same, stand_wider (content word) before first mid word front later here, named_moved content now mid mid last words rest kept (omega arith) more)
