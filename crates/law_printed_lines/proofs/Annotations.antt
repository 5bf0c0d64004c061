-- The text of an annotation leads back to the message with its details.
use Rattle.std.proofs.Common.{◌≡◌, ◌∙◌, ℕ, ◌≤◌, true, false, List, [], ◌++◌, All, Option, Some, None, ap, append-nil, arith, refl, sym}
use Rattle.std.specs.List.{flat_map, list_all}
use Rattle.std.specs.Prelude.{codes, nat_le}
use Rattle.std.proofs.lemmas.Bool.{leb-true}
use Rattle.std.proofs.lemmas.Grind.{flat_map-append}
use Rattle.std.proofs.lemmas.List.Elements.{All-append, All-nil}
use Rattle.check_print.specs.report_lines.Github.{detail, encoded, encoded_byte}
use Rattle.check_print.specs.source_file.declared.level.Level.{Level}
use Rattle.check_print.specs.source_file.declared.level.Level.TheVariants.{Warning, Error}
use Rattle.law_printed_lines.specs.Kept.{detail_line, details_of}
use Rattle.law_printed_lines.proofs.Escaping.{IsApart, read, read_on, read_written, written_shown}
use Rattle.law_printed_lines.proofs.Percents.{encoded_flat_same}
use Rattle.law_printed_lines.proofs.Tests.{all_from_test}

-- a text as it is encoded, before escapes
abbrev flat : List ℕ → List ℕ
flat text = flat_map encoded_byte text

-- the details that are written
abbrev pub details_text : Level → Option (List ℕ) → Option (List ℕ) → List ℕ
details_text Warning remark help = detail (codes "note") remark ++ detail (codes "help") help
details_text Error remark help = []

-- the whole text
abbrev pub annotation_text : Level → List ℕ → Option (List ℕ) → Option (List ℕ) → List ℕ
annotation_text level message remark help = encoded message ++ details_text level remark help

-- ---- reading

encoded_read : (text rest : List ℕ) → IsApart rest → read (encoded text ++ rest) ≡ flat text ++ read rest
unfolding encoded
encoded_read text rest apart = read_written false 0 (flat text) rest apart

nothing_apart : IsApart []
nothing_apart = (λ e. omega arith, λ e. omega arith)

note_read : (text : Option (List ℕ)) (rest : List ℕ) → IsApart rest
    → read (detail (codes "note") text ++ rest) ≡ flat (detail_line (codes "note") text) ++ read rest
unfolding read_on
note_read None rest apart = refl
note_read (Some text) rest apart = ap (λ l. codes "%0Anote: " ++ l) (encoded_read text rest apart)

help_read : (text : Option (List ℕ)) (rest : List ℕ) → IsApart rest
    → read (detail (codes "help") text ++ rest) ≡ flat (detail_line (codes "help") text) ++ read rest
unfolding read_on
help_read None rest apart = refl
help_read (Some text) rest apart = ap (λ l. codes "%0Ahelp: " ++ l) (encoded_read text rest apart)

details_apart : (level : Level) (remark help : Option (List ℕ)) → IsApart (details_text level remark help)
details_apart Warning None None = nothing_apart
details_apart Warning None (Some text) = (λ e. omega arith, λ e. omega arith)
details_apart Warning (Some text) help = (λ e. omega arith, λ e. omega arith)
details_apart Error remark help = nothing_apart

nothing_read : read [] ≡ []
unfolding read_on
nothing_read = refl

help_alone : (help : Option (List ℕ)) → read (detail (codes "help") help) ≡ flat (detail_line (codes "help") help)
help_alone help =
    ap read (sym (append-nil (detail (codes "help") help))) ∙ help_read help [] nothing_apart
    ∙ ap (λ l. flat (detail_line (codes "help") help) ++ l) nothing_read ∙ append-nil (flat (detail_line (codes "help") help))

help_apart : (help : Option (List ℕ)) → IsApart (detail (codes "help") help)
help_apart None = nothing_apart
help_apart (Some text) = (λ e. omega arith, λ e. omega arith)

details_read : (level : Level) (remark help : Option (List ℕ)) → read (details_text level remark help) ≡ flat (details_of level remark help)
details_read Warning remark help =
    note_read remark (detail (codes "help") help) (help_apart help)
    ∙ ap (λ l. flat (detail_line (codes "note") remark) ++ l) (help_alone help)
    ∙ sym (flat_map-append encoded_byte (detail_line (codes "note") remark) (detail_line (codes "help") help))
details_read Error remark help = nothing_read

pub annotation_read : (level : Level) (message : List ℕ) (remark help : Option (List ℕ))
    → read (annotation_text level message remark help) ≡ flat (message ++ details_of level remark help)
annotation_read level message remark help =
    encoded_read message (details_text level remark help) (details_apart level remark help)
    ∙ ap (λ l. flat message ++ l) (details_read level remark help)
    ∙ sym (flat_map-append encoded_byte message (details_of level remark help))

pub annotation_same : (v w : Level) (p q : List ℕ) (n m h k : Option (List ℕ)) → annotation_text v p n h ≡ annotation_text w q m k
    → p ++ details_of v n h ≡ q ++ details_of w m k
annotation_same v w p q n m h k e =
    encoded_flat_same (p ++ details_of v n h) (q ++ details_of w m k) (sym (annotation_read v p n h) ∙ ap read e ∙ annotation_read w q m k)

-- ---- on one line

abbrev IsShown : ℕ → Type 0
IsShown b = 32 ≤ b

encoded_shown : (text : List ℕ) → All IsShown (encoded text)
unfolding encoded
encoded_shown text = written_shown false (flat text)

shown : (text : List ℕ) → list_all (nat_le 32) text ≡ true → All IsShown text
shown text e = all_from_test IsShown (nat_le 32) (λ b f. leb-true 32 b f) text e

note_shown : (text : Option (List ℕ)) → All IsShown (detail (codes "note") text)
note_shown None = All-nil IsShown
note_shown (Some text) = All-append IsShown (codes "%0Anote: ") (encoded text) (shown (codes "%0Anote: ") refl) (encoded_shown text)

help_shown : (text : Option (List ℕ)) → All IsShown (detail (codes "help") text)
help_shown None = All-nil IsShown
help_shown (Some text) = All-append IsShown (codes "%0Ahelp: ") (encoded text) (shown (codes "%0Ahelp: ") refl) (encoded_shown text)

details_shown : (level : Level) (remark help : Option (List ℕ)) → All IsShown (details_text level remark help)
details_shown Warning remark help = All-append IsShown (detail (codes "note") remark) (detail (codes "help") help) (note_shown remark) (help_shown help)
details_shown Error remark help = All-nil IsShown

pub annotation_shown : (level : Level) (message : List ℕ) (remark help : Option (List ℕ)) → All (λ b. 32 ≤ b) (annotation_text level message remark help)
annotation_shown level message remark help =
    All-append IsShown (encoded message) (details_text level remark help) (encoded_shown message) (details_shown level remark help)
