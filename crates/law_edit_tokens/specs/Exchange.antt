-- What stays of a text's tokens where a run of whole tokens is exchanged for new ones.
use Rattle.std.specs.Prelude.{◌≡◌, ◌<◌, ◌≤◌, ℕ, ◌+◌, ◌-◌, Bool, true, false, List, [], ◌∷◌, ◌++◌, map, take, drop, length, slice_index, ◌==◌, ◌&&◌, not}
use Rattle.std.specs.List.{flat_map, list_all}
use Rattle.law_renumber.specs.sql_token.declared.token.Tok.{Tok}
use Rattle.law_renumber.specs.sql_token.declared.token.TokKind.{TokKind}
use Rattle.law_renumber.specs.sql_token.declared.token.TokKind.TheVariants.{Op, Blank, BlockComment, Word, Quoted, Punct}
use Rattle.std.specs.Char.{is_ascii_digit}
use Rattle.law_renumber.specs.sql_token.Token.{Text, At, Leads, Lexed, kind_of, Takes, is_word, is_blank, begins_word}

-- The text with w in place of its bytes from a to before b.
abbrev pub exchanged : Text → ℕ → ℕ → Text → Text
exchanged t a b w = take a t ++ (w ++ drop b t)

-- a token after place b, where that place has moved to c
abbrev pub tok_moved : ℕ → ℕ → Tok → Tok
tok_moved b c k = record k { start = c + (k.start - b); end = c + (k.end - b) }

-- The last two of these tokens, which begin at i, are at their places in u.
abbrev pub LastTwoStay : Text → ℕ → List Tok → Type 0
LastTwoStay u i [] = Unit {0}
LastTwoStay u i (k ∷ []) = At u i k.kind k.end
LastTwoStay u i (k ∷ l ∷ []) = At u i k.kind k.end × At u k.end l.kind l.end
LastTwoStay u i (k ∷ l ∷ m ∷ ks) = LastTwoStay u k.end (l ∷ m ∷ ks)

-- The last one is, and is no operator.
abbrev pub LastStays : Text → ℕ → List Tok → Type 0
LastStays u i [] = Unit {0}
LastStays u i (k ∷ []) = At u i k.kind k.end × (k.kind ≡ Op → ⊥)
LastStays u i (k ∷ l ∷ ks) = LastStays u k.end (l ∷ ks)

-- The first of these tokens is at its place, which has moved from b to c.
abbrev pub FirstStays : Text → ℕ → ℕ → List Tok → Type 0
FirstStays u b c [] = Unit {0}
FirstStays u b c (k ∷ ks) = At u c k.kind (c + (k.end - b))

-- The tokens of t in three: those before a, those from a to b, and those after b.
pub record Cut (t : Text) (a b : ℕ) (front run after : List Tok) : Type 0 where
  pub until_run : Leads t 0 front a
  pub in_run : Leads t a run b
  pub after_run : Leads t b after (length t)

-- The tokens of the new text: those before, the new ones, and those after, moved.
abbrev pub reread : List Tok → List Tok → ℕ → ℕ → List Tok → List Tok
reread front new b c after = front ++ (new ++ map (tok_moved b c) after)

-- Where in the new text the last two tokens before the run, the new tokens and the first one after the run are at their
-- places, all tokens are.
abbrev pub Rereads : Type 0
Rereads =
    (t w : Text) (a b : ℕ) (front run new after : List Tok) → Cut t a b front run after →
    LastTwoStay (exchanged t a b w) 0 front → Leads (exchanged t a b w) a new (a + length w) →
    FirstStays (exchanged t a b w) b (a + length w) after →
    Lexed (exchanged t a b w) (reread front new b (a + length w) after)

-- The same where the last token before the run is no operator: then that one is enough.
abbrev pub RereadsAfterOne : Type 0
RereadsAfterOne =
    (t w : Text) (a b : ℕ) (front run new after : List Tok) → Cut t a b front run after →
    LastStays (exchanged t a b w) 0 front → Leads (exchanged t a b w) a new (a + length w) →
    FirstStays (exchanged t a b w) b (a + length w) after →
    Lexed (exchanged t a b w) (reread front new b (a + length w) after)

-- The first token after the run is at its place wherever neither place is the start of the text.
abbrev pub FirstIsFree : Type 0
FirstIsFree =
    (t w : Text) (a b : ℕ) (front run after : List Tok) → Cut t a b front run after → 0 < b → 0 < a + length w →
    FirstStays (exchanged t a b w) b (a + length w) after

-- ---- new tokens, by their kinds and bytes

abbrev pub Made : Type 0
Made = TokKind × Text

abbrev pub made_text : List Made → Text
made_text ps = flat_map (λ p. p.1) ps

-- the tokens that these are from place i on
abbrev pub made_toks : ℕ → List Made → List Tok
made_toks i [] = []
made_toks i (p ∷ ps) = record { kind = p.0; start = i; end = i + length p.1 } ∷ made_toks (i + length p.1) ps

-- It is one token before this text.
pub record IsTokenBefore (is_start : Bool) (p : Made) (rest : Text) : Type 0 where
  pub some : 0 < length p.1
  pub kind : p.0 ≡ kind_of is_start (p.1 ++ rest)
  pub takes : Takes is_start p.0 (p.1 ++ rest) (length p.1)

-- Each is one token before what follows, at the start of the text or not.
abbrev pub Fits : Bool → List Made → Text → Type 0
Fits is_start [] rest = Unit {0}
Fits is_start (p ∷ ps) rest = IsTokenBefore is_start p (made_text ps ++ rest) × Fits false ps rest

-- a word of more than one byte that is led by an ASCII letter or `_`
pub record IsPlainWord (w : Text) : Type 0 where
  pub bytes : list_all is_word w ≡ true
  pub begins : begins_word (slice_index w 0) ≡ true
  pub ascii : slice_index w 0 < 128
  pub long : 2 ≤ length w

-- ---- the last token before the run

-- Whether a token of this kind stays where this byte follows it, whatever followed it before.
abbrev pub keeps_before : TokKind → ℕ → Bool
keeps_before Word b = not (is_word b) && not (b == 39) && not (b == 38)
keeps_before Quoted b = not (b == 34)
keeps_before Blank b = not (is_blank b)
keeps_before BlockComment b = true
keeps_before Punct b = not (is_ascii_digit b)
keeps_before _ b = false

-- the last of these tokens does
abbrev pub LastKeeps : List Tok → ℕ → Type 0
LastKeeps [] b = Unit {0}
LastKeeps (k ∷ []) b = keeps_before k.kind b ≡ true
LastKeeps (k ∷ l ∷ ks) b = LastKeeps (l ∷ ks) b

-- The law for new tokens that are given by their kinds and bytes: it speaks of no places.
abbrev pub MadeRereads : Type 0
MadeRereads =
    (t : Text) (a b : ℕ) (front run after : List Tok) (ps : List Made) → Cut t a b front run after →
    LastKeeps front (slice_index (made_text ps ++ drop b t) 0) → Fits (a == 0) ps (drop b t) →
    FirstStays (exchanged t a b (made_text ps)) b (a + length (made_text ps)) after →
    Lexed (exchanged t a b (made_text ps)) (reread front (made_toks a ps) b (a + length (made_text ps)) after)
