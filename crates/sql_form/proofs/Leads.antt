-- A row is refused where its first word does not match, or the first after one that is missing.
use Rattle.std.proofs.Common.{◌≡◌, ◌≤◌, Bool, true, false, List, [], ◌∷◌, length, get_or, drop, ◌||◌, not, refl, sym, ap, arith, Some, None}
use Rattle.std.specs.Bool.{OnFalse, OnTrue}
use Rattle.sql_tree.specs.sql_keyword.declared.words.Keyword.{Keyword}
use Rattle.sql_tree.specs.sql_token.declared.terminal.Terminal.{Terminal}
use Rattle.sql_tree.specs.declared.forms.Part.{Part}
use Rattle.sql_tree.specs.declared.forms.Part.TheVariants as p
use Rattle.sql_tree.specs.Forms.{at, fresh, in_turn, take_part, take_mods, is_temp, is_other_mod}
use Rattle.sql_tree.specs.declared.forms.Fact.{Fact}
use Rattle.sql_tree.specs.Split.{begins_with}
use Rattle.sql_form.specs.Missing.{begins_with_mod}

word_refused : (w : Keyword) (ts : List Terminal) → begins_with w ts ≡ false → take_part (p.Word w) fresh ts ≡ None
unfolding take_part
word_refused w [] h = refl
word_refused w (t ∷ ts) h = rw h refl

object_refused : (w : Keyword) (ts : List Terminal) → begins_with w ts ≡ false → take_part (p.Object w) fresh ts ≡ None
unfolding take_part
object_refused w [] h = refl
object_refused w (t ∷ ts) h = rw h refl

pub word_may : (w : Keyword) (ts : List Terminal) (b : Bool) → b ≡ begins_with w ts → OnFalse b (take_part (p.Word w) fresh ts ≡ None)
word_may w ts true h = tt
word_may w ts false h = word_refused w ts (sym h)

pub object_may : (w : Keyword) (ts : List Terminal) (b : Bool) → b ≡ begins_with w ts → OnFalse b (take_part (p.Object w) fresh ts ≡ None)
object_may w ts true h = tt
object_may w ts false h = object_refused w ts (sym h)

-- Where the first part is missing, the parts do not.
pub lead_may : (lead : List Part) (ts : List Terminal) (d : Part) (b : Bool) → 1 ≤ length lead → OnFalse b (take_part (get_or lead 0 d) fresh ts ≡ None) →
    OnFalse b (in_turn lead fresh ts ≡ None)
lead_may [] ts d b some h = absurd (omega arith)
lead_may (x ∷ xs) ts d true some h = tt
lead_may (x ∷ xs) ts d false some h = rw h refl

-- ---- after a part that is missing

no_mods : (t : Terminal) (ts : List Terminal) (a b : Bool) → a ≡ is_temp t → b ≡ is_other_mod t → (a || b) ≡ false → take_mods fresh (t ∷ ts) ≡ at fresh (t ∷ ts)
no_mods t ts true b is other h = cc
no_mods t ts false true is other h = cc
no_mods t ts false false is other h = rw (← is, ← other) refl

mods_missing : (ts : List Terminal) → begins_with_mod ts ≡ false → take_part p.Mods fresh ts ≡ Some (at fresh ts)
unfolding take_part
mods_missing [] h = refl
mods_missing (t ∷ ts) h = ap Some (no_mods t ts (is_temp t) (is_other_mod t) refl refl h)

flag_missing : (w : Keyword) (m : Fact) (ts : List Terminal) → begins_with w ts ≡ false → take_part (p.Flag w m) fresh ts ≡ Some (at fresh ts)
unfolding take_part
flag_missing w m [] h = refl
flag_missing w m (t ∷ ts) h = rw h refl

pub mods_may : (ts : List Terminal) (b : Bool) → b ≡ begins_with_mod ts → OnTrue (not b) (take_part p.Mods fresh ts ≡ Some (at fresh ts))
mods_may ts true h = tt
mods_may ts false h = mods_missing ts (sym h)

pub flag_may : (w : Keyword) (m : Fact) (ts : List Terminal) (b : Bool) → b ≡ begins_with w ts → OnTrue (not b) (take_part (p.Flag w m) fresh ts ≡ Some (at fresh ts))
flag_may w m ts true h = tt
flag_may w m ts false h = flag_missing w m ts (sym h)

-- Where the first part is missing, the others may be there or not.
pub lead_after : (lead : List Part) (ts : List Terminal) (d : Part) (b : Bool) → 1 ≤ length lead → take_part (get_or lead 0 d) fresh ts ≡ Some (at fresh ts)
    → OnFalse b (in_turn (drop 1 lead) fresh ts ≡ None) → OnFalse b (in_turn lead fresh ts ≡ None)
lead_after [] ts d b some h more = absurd (omega arith)
lead_after (x ∷ xs) ts d true some h more = tt
lead_after (x ∷ xs) ts d false some h more = rw h more
