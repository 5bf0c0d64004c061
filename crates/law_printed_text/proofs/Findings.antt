-- What is printed of a finding begins with its title and its place, is cut off by an empty line, and leads back to it.
use Rattle.std.proofs.Common.{◌≡◌, ◌∙◌, ℕ, ◌-◌, ◌<◌, ◌^◌, Bool, true, false, List, ◌++◌, Option, Some, None, ap, append_assoc, codes, decimal, length, refl, sym}
use Rattle.std.proofs.lemmas.Fmt.{decimal_injective}
use Rattle.law_printed_lines.specs.lint_report.declared.report.Report.{Report}
use Rattle.law_printed_lines.specs.lint_report.Codes.{name_of}
use Rattle.law_printed_lines.specs.report_text.Excerpt.{excerpt}
use Rattle.law_printed_lines.specs.report_text.Fixed.{fix_part}
use Rattle.law_printed_lines.specs.report_text.Layouts.{bar_line, blanks}
use Rattle.law_printed_lines.specs.report_text.Paint.{style_of}
use Rattle.law_printed_lines.specs.report_text.Report.{head, hides_help, hint_part, layout_of, name_arrow, notes, printed_refusal, printed_report, shown_help, title}
use Rattle.law_printed_lines.specs.source_file.declared.hints.Hint.{Hint}
use Rattle.law_printed_lines.specs.source_file.declared.level.Level.{Level}
use Rattle.law_printed_lines.specs.source_file.declared.level.Level.TheVariants.{Warning, Error}
use Rattle.law_printed_lines.specs.source_file.declared.refusal.Refusal.{Refusal}
use Rattle.law_printed_lines.specs.source_file.declared.refusal.Refusal.TheVariants as refusal
use Rattle.law_printed_lines.specs.source_file.Escaped.{escaped}
use Rattle.law_printed_lines.specs.source_file.File.{FileValue, line_number, location}
use Rattle.law_printed_lines.specs.source_file.Hints.{hint_of}
use Rattle.law_printed_lines.specs.source_file.Refusals as refusals
use Rattle.law_printed_lines.specs.text_pos.Range.{Range}
use Rattle.law_printed_text.proofs.Blocks.{bar_row, excerpt_rows, fix_rows, hint_rows, notes_rows}
use Rattle.law_printed_text.proofs.Cuts.{cut_last}
use Rattle.law_printed_text.proofs.Heads.{arrow_back, arrow_row, arrow_rows, title_back, title_color, title_row}
use Rattle.law_printed_lines.proofs.Names.{is_name}
use Rattle.law_printed_text.proofs.Pieces.{decimal_clean, decimal_digits, escaped_clean, frame, is_digit, shell}
use Rattle.law_printed_text.proofs.Rows.{IsClean, IsRows, after_empty, both, cut_off, joined, word}

-- ---- the place of a finding

-- what is behind the arrow: the name, and the place where there is one
abbrev pub place_text : Bool → List ℕ → ℕ → ℕ → List ℕ
place_text true name line column = escaped name ++ codes ":" ++ decimal line ++ codes ":" ++ decimal column
place_text false name line column = escaped name

pub place_clean : (placed : Bool) (name : List ℕ) (line column : ℕ) → IsClean (place_text placed name line column)
place_clean true name line column =
    both (both (both (both (escaped_clean false name) (word (codes ":") refl)) (decimal_clean line)) (word (codes ":") refl)) (decimal_clean column)
place_clean false name line column = escaped_clean false name

last_number : (a b : List ℕ) (m n : ℕ) → a ++ codes ":" ++ decimal m ≡ b ++ codes ":" ++ decimal n → (a ≡ b) × (decimal m ≡ decimal n)
last_number a b m n e =
    cut_last is_digit a b (decimal m) (decimal n) 58 (decimal_digits m) (decimal_digits n) refl
    (sym (append_assoc a (codes ":") (decimal m)) ∙ e ∙ append_assoc b (codes ":") (decimal n))

-- such a text of a place leads back to it
pub place_back : (name other : List ℕ) (l m c d : ℕ) → l < 2 ^ 64 → m < 2 ^ 64 → c < 2 ^ 64 → d < 2 ^ 64 → place_text true name l c ≡ place_text true other m d
    → (escaped name ≡ escaped other) × (l ≡ m) × (c ≡ d)
place_back name other l m c d hl hm hc hd e =
    let columns = last_number (escaped name ++ codes ":" ++ decimal l) (escaped other ++ codes ":" ++ decimal m) c d e in
    let lines = last_number (escaped name) (escaped other) l m columns.0 in
    (lines.0, decimal_injective l m hl hm lines.1, decimal_injective c d hc hd columns.1)

-- ---- the rows of a finding

-- a title, the row of a place, more rows and an empty line
pub record IsBlock (color : Bool) (level : Level) (rule message place t : List ℕ) : Type 0 where
  pub gutter : ℕ
  pub more : List ℕ
  pub rows : IsRows more
  pub is : t ≡ ((title color level rule message ++ arrow_row color gutter place) ++ more) ++ codes "\n"

module _ (color : Bool) (file : FileValue) where
  abbrev gutter_of : ℕ
  gutter_of = length (decimal (line_number file.text (length file.text - 1)))

  regroup : (t b p s e q l c n r x m f : List ℕ)
      → t ++ ((b ++ p ++ s ++ e ++ q ++ l ++ q ++ c ++ n) ++ r ++ x) ++ m ++ f ++ n ≡ ((t ++ (b ++ (p ++ s ++ (e ++ q ++ l ++ q ++ c)) ++ n)) ++ (r ++ x ++ m ++ f)) ++ n
  regroup t b p s e q l c n r x m f = simp append_assoc

  regroup_placed : (t b p s e q l c n r x m : List ℕ)
      → t ++ ((b ++ p ++ s ++ e ++ q ++ l ++ q ++ c ++ n) ++ r ++ x) ++ m ++ n ≡ ((t ++ (b ++ (p ++ s ++ (e ++ q ++ l ++ q ++ c)) ++ n)) ++ (r ++ x ++ m)) ++ n
  regroup_placed t b p s e q l c n r x m = simp append_assoc

  regroup_named : (t b p s e n m : List ℕ) → t ++ (b ++ p ++ s ++ e ++ n) ++ m ++ n ≡ ((t ++ (b ++ (p ++ s ++ e) ++ n)) ++ m) ++ n
  regroup_named t b p s e n m = simp append_assoc

  -- the place of a byte
  abbrev placed_at : ℕ → List ℕ
  placed_at at = place_text true file.name (location file.text at).line (location file.text at).column

  pub report_block : (r : Report) → IsBlock color Warning (name_of r.code) r.message (placed_at r.text_range.start) (printed_report color file r)
  unfolding head
  report_block r =
      let help = shown_help r (hides_help file r) in
      let place = location file.text r.text_range.start in
      record {
        gutter = gutter_of;
        more =
            bar_line (layout_of file.text color) ++ excerpt (layout_of file.text color) (style_of Warning) file.text r.text_range
            ++ notes (layout_of file.text color) r help ++ fix_part (layout_of file.text color) file.text r.fix;
        rows =
            joined (joined (joined (bar_row file.text color) (excerpt_rows file.text color Warning r.text_range)) (notes_rows file.text color r help)) (fix_rows file.text color r.fix);
        is =
            regroup (title color Warning (name_of r.code) r.message) (blanks gutter_of) (shell color frame (codes "-->")) (codes " ") (escaped file.name) (codes ":")
            (decimal place.line) (decimal place.column) (codes "\n") (bar_line (layout_of file.text color))
            (excerpt (layout_of file.text color) (style_of Warning) file.text r.text_range) (notes (layout_of file.text color) r help)
            (fix_part (layout_of file.text color) file.text r.fix);
      }

  placed_block : (rule message : List ℕ) (at : ℕ) (hint : Option Hint)
      → IsBlock color Error rule message (placed_at at)
      (title color Error rule message ++ head (layout_of file.text color) Error file (record { start = at; end = at }) ++ hint_part (layout_of file.text color) hint ++ codes "\n")
  unfolding head
  placed_block rule message at hint =
      let range : Range = record { start = at; end = at } in
      let place = location file.text at in
      record {
        gutter = gutter_of;
        more =
            bar_line (layout_of file.text color) ++ excerpt (layout_of file.text color) (style_of Error) file.text range ++ hint_part (layout_of file.text color) hint;
        rows = joined (joined (bar_row file.text color) (excerpt_rows file.text color Error range)) (hint_rows file.text color hint);
        is =
            regroup_placed (title color Error rule message) (blanks gutter_of) (shell color frame (codes "-->")) (codes " ") (escaped file.name) (codes ":")
            (decimal place.line) (decimal place.column) (codes "\n") (bar_line (layout_of file.text color))
            (excerpt (layout_of file.text color) (style_of Error) file.text range) (hint_part (layout_of file.text color) hint);
      }

  named_block : (rule message : List ℕ) (line column : ℕ) (hint : Option Hint)
      → IsBlock color Error rule message (place_text false file.name line column)
      (title color Error rule message ++ name_arrow (layout_of file.text color) file ++ hint_part (layout_of file.text color) hint ++ codes "\n")
  named_block rule message line column hint =
      record {
        gutter = gutter_of;
        more = hint_part (layout_of file.text color) hint;
        rows = hint_rows file.text color hint;
        is =
            regroup_named (title color Error rule message) (blanks gutter_of) (shell color frame (codes "-->")) (codes " ") (escaped file.name) (codes "\n")
            (hint_part (layout_of file.text color) hint);
      }

  pub refusal_block : (r : Refusal) → IsBlock color Error (refusals.name_of r) (refusals.message_of r)
      (place_text (refusals.has_place r) file.name (location file.text (refusals.place_of r)).line (location file.text (refusals.place_of r)).column) (printed_refusal color file r)
  refusal_block refusal.Missing = named_block (codes "missing-file") (codes "there is no such file") 0 0 None
  refusal_block refusal.Unreadable = named_block (codes "unreadable-file") (codes "the file can't be read") 0 0 None
  refusal_block (refusal.NotUtf8 at) = placed_block (codes "not-utf8") (codes "the file is not UTF-8") at (hint_of file.text (refusal.NotUtf8 at))
  refusal_block refusal.TooLong = named_block (codes "text-too-long") (codes "the file has 2^32 bytes or more") 0 0 None
  refusal_block (refusal.Unterminated at) =
      placed_block (codes "unterminated") (codes "what begins here does not end") at (hint_of file.text (refusal.Unterminated at))
  refusal_block (refusal.Syntax at) =
      placed_block (codes "syntax-error") (codes "the statement that begins here can't be read") at (hint_of file.text (refusal.Syntax at))

apart : (t a m n : List ℕ) → ((t ++ a) ++ m) ++ n ≡ t ++ (a ++ (m ++ n))
apart t a m n = simp append_assoc

-- two of them that begin the same text are both painted, or neither is
pub block_color : (color paint : Bool) (level other : Level) (rule another message text place elsewhere t u x y : List ℕ) → IsBlock color level rule message place t
    → IsBlock paint other another text elsewhere u → t ++ x ≡ u ++ y → color ≡ paint
block_color color paint level other rule another message text place elsewhere t u x y b c e =
    let first = title color level rule message in
    let second = title paint other another text in
    let row = arrow_row color b.gutter place in
    let like = arrow_row paint c.gutter elsewhere in
    let whole : t ≡ first ++ (row ++ (b.more ++ codes "\n")) = b.is ∙ apart first row b.more (codes "\n") in
    let more : u ≡ second ++ (like ++ (c.more ++ codes "\n")) = c.is ∙ apart second like c.more (codes "\n") in
    title_color color paint level other rule another message text ((row ++ (b.more ++ codes "\n")) ++ x) ((like ++ (c.more ++ codes "\n")) ++ y)
    (sym (append_assoc first (row ++ (b.more ++ codes "\n")) x) ∙ ap (λ l. l ++ x) (sym whole) ∙ e ∙ ap (λ l. l ++ y) more
    ∙ append_assoc second (like ++ (c.more ++ codes "\n")) y)

module _ (color : Bool) where
  -- it is cut off by its empty line
  pub block_end : (level : Level) (rule message place t rest : List ℕ) → IsBlock color level rule message place t → is_name rule ≡ true → IsClean place
      → after_empty true (t ++ rest) ≡ Some rest
  block_end level rule message place t rest b h p =
      ap (λ l. after_empty true (l ++ rest)) b.is
      ∙ cut_off (joined (joined (title_row color level rule message h) (arrow_rows color b.gutter place p)) b.rows) rest

  -- and it leads back to its level, rule, message and place
  pub block_back : (level other : Level) (rule another message text place elsewhere t u : List ℕ) → IsBlock color level rule message place t
      → IsBlock color other another text elsewhere u → is_name rule ≡ true → is_name another ≡ true → IsClean place → IsClean elsewhere → t ≡ u
      → (level ≡ other) × (rule ≡ another) × (escaped message ≡ escaped text) × (place ≡ elsewhere)
  block_back level other rule another message text place elsewhere t u b c h k p q e =
      let first = title color level rule message in
      let second = title color other another text in
      let row = arrow_row color b.gutter place in
      let like = arrow_row color c.gutter elsewhere in
      let whole : first ++ (row ++ (b.more ++ codes "\n")) ≡ second ++ (like ++ (c.more ++ codes "\n")) =
      sym (apart first row b.more (codes "\n")) ∙ sym b.is ∙ e ∙ c.is ∙ apart second like c.more (codes "\n") in
      let titles = title_back color level other rule another message text (row ++ (b.more ++ codes "\n")) (like ++ (c.more ++ codes "\n")) h k whole in
      (titles.0, titles.1, titles.2, arrow_back color b.gutter c.gutter place elsewhere (b.more ++ codes "\n") (c.more ++ codes "\n") p q titles.3)
