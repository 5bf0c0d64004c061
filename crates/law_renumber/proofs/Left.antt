-- What holds of a list of terminals and of what follows its first one holds of all that a front leaves.
use Rattle.std.proofs.Common.{ℕ, zero, suc, Bool, true, false, List, [], ◌∷◌, drop, Option, Some, None}
use Rattle.std.specs.Prelude.{if◌then◌else◌, ◌&&◌, ◌||◌}
use Rattle.std.specs.Option.{option_and_then}
use Rattle.sql_tree.specs.sql_keyword.declared.words.Keyword.{Keyword}
use Rattle.sql_tree.specs.sql_keyword.declared.words.TheConstants.Keyword as keyword
use Rattle.sql_token.specs.declared.terminal.Symbol.{Symbol}
use Rattle.sql_token.specs.declared.terminal.Symbol.TheVariants as s
use Rattle.sql_token.specs.declared.terminal.Terminal.{Terminal}
use Rattle.sql_token.specs.Terminal.{is_keyword, is_name, is_dot}
use Rattle.sql_tree.specs.declared.kinds.StmtKind.{StmtKind}
use Rattle.sql_tree.specs.declared.forms.Captures.{Captures}
use Rattle.sql_tree.specs.declared.forms.Fact.{Fact}
use Rattle.sql_tree.specs.declared.forms.Fact.TheVariants as m
use Rattle.sql_tree.specs.declared.forms.Part.{Part}
use Rattle.sql_tree.specs.declared.forms.Part.TheVariants as p
use Rattle.sql_tree.specs.declared.forms.Phrase.{Phrase}
use Rattle.sql_tree.specs.declared.forms.Phrase.TheVariants as phrase
use Rattle.sql_tree.specs.Split.{before, from_mark, into, privileges, begins_list, after_list, closing}
use Rattle.sql_tree.specs.Forms.{State, Row, at, one, or_here, either_of, words_of, after_word, after_words, take_phrase, record_fact, names_end, take_path, take_mods, is_temp, is_other_mod, guard, index_name, take_index_name, take_chain, is_star_symbol, is_str_symbol, take_list, some_left, opened, take_part, in_turn, all_taken, finished, led_or, first_led, first_whole, kind_or_row, led_by, one_word_kind, rows_of, nothing_kept, word_kept, name_kept, concurrently_kept, fresh}
use Rattle.sql_tree.specs.Words.{is_of_class}
use Rattle.sql_tree.specs.Statement.{front_by, from_verb}
use Rattle.law_renumber.proofs.There.{IfThere, from_there, either_there, if_there}

module _ (Fits : List Terminal → Type 0) (tail : (t : Terminal) (ts : List Terminal) → Fits (t ∷ ts) → Fits ts) where
  abbrev Left : State → Type 0
  Left x = Fits x.left

  one_left : (test : Terminal → Bool) (keep : Terminal → Captures → Captures) (c : Captures) (ts : List Terminal) → Fits ts → IfThere Left (one test keep c ts)
  one_left test keep c [] h = tt
  one_left test keep c (t ∷ ts) h = if_there Left (test t) (Some (at (keep t c) ts)) None (tail t ts h) tt

  here_left : (o : Option State) (c : Captures) (ts : List Terminal) → IfThere Left o → Fits ts → Left (or_here o c ts)
  here_left None c ts h k = k
  here_left (Some x) c ts h k = h

  pub word_left : (w : Keyword) (ts : List Terminal) → Fits ts → IfThere Fits (after_word w ts)
  word_left w [] h = tt
  word_left w (t ∷ ts) h = if_there Fits (is_keyword w t) (Some ts) None (tail t ts h) tt

  words_left : (ws : List Keyword) (ts : List Terminal) → Fits ts → IfThere Fits (after_words ws ts)
  words_left [] ts h = h
  words_left (w ∷ ws) ts h = from_there Fits Fits (after_words ws) (words_left ws) (after_word w ts) (word_left w ts h)

  phrase_left : (x : Phrase) (fact : Fact) (c : Captures) (ts : List Terminal) → Fits ts → IfThere Left (take_phrase x fact c ts)
  phrase_left x fact c ts h = from_there Fits Left (λ rest. Some (at (record_fact fact c) rest)) (λ rest k. k) (after_words (words_of x) ts) (words_left (words_of x) ts h)

  names_by : (b : Bool) (more : ℕ × List Terminal) (n : ℕ) (ts : List Terminal) → Fits more.1 → Fits ts → Fits (if b then more else (n, ts)).1
  names_by true more n ts h k = h
  names_by false more n ts h k = k

  names_left : (n : ℕ) (ts : List Terminal) → Fits ts → Fits (names_end n ts).1
  names_left n [] h = h
  names_left n (d ∷ []) h = h
  names_left n (d ∷ t ∷ ts) h = names_by (is_dot d && is_name t) (names_end t.number ts) n (d ∷ t ∷ ts) (names_left t.number ts (tail t ts (tail d (t ∷ ts) h))) h

  path_left : (c : Captures) (ts : List Terminal) → Fits ts → IfThere Left (take_path c ts)
  path_left c [] h = tt
  path_left c (t ∷ ts) h = if_there Left (is_name t) _ None (names_left t.number ts (tail t ts h)) tt

  mods_by : (a b : Bool) (first second third : State) → Left first → Left second → Left third → Left (if a then first else (if b then second else third))
  mods_by true b first second third h k l = h
  mods_by false true first second third h k l = k
  mods_by false false first second third h k l = l

  mods_left : (c : Captures) (ts : List Terminal) → Fits ts → Left (take_mods c ts)
  mods_left c [] h = h
  mods_left c (t ∷ ts) h =
      mods_by (is_temp t) (is_other_mod t) (take_mods (record c { temp = true }) ts) (take_mods c ts) (at c (t ∷ ts))
      (mods_left (record c { temp = true }) ts (tail t ts h)) (mods_left c ts (tail t ts h)) h

  guard_left : (c : Captures) (ts : List Terminal) → Fits ts → Left (guard c ts)
  guard_left c ts h = here_left (take_phrase phrase.IfNotExists m.Guarded c ts) c ts (phrase_left phrase.IfNotExists m.Guarded c ts h) h

  index_left : (c : Captures) (ts : List Terminal) → Fits ts → Left (take_index_name c ts)
  index_left c ts h = here_left (index_name (guard c ts).kept (guard c ts).left) c ts (one_left _ name_kept (guard c ts).kept (guard c ts).left (guard_left c ts h)) h

  chain_left : (c : Captures) (ts : List Terminal) → Fits ts → Left (take_chain c ts)
  chain_left c ts h =
      here_left (either_of (take_phrase phrase.AndChain m.Chain c ts) (take_phrase phrase.AndNoChain m.Nothing c ts)) c ts
      (either_there Left (take_phrase phrase.AndChain m.Chain c ts) (take_phrase phrase.AndNoChain m.Nothing c ts) (phrase_left phrase.AndChain m.Chain c ts h) (phrase_left phrase.AndNoChain m.Nothing c ts h)) h

  pub drop_left : (n : ℕ) (ts : List Terminal) → Fits ts → Fits (drop n ts)
  drop_left zero ts h = h
  drop_left (suc n) [] h = h
  drop_left (suc n) (t ∷ ts) h = drop_left n ts (tail t ts h)

  list_left : (c : Captures) (ts : List Terminal) → Fits ts → IfThere Left (take_list c ts)
  unfolding after_list
  list_left c ts h =
      from_there Fits Left (λ rest. Some (at c rest)) (λ rest k. k) (if begins_list ts then Some (drop (closing 0 0 ts) ts) else None)
      (if_there Fits (begins_list ts) (Some (drop (closing 0 0 ts) ts)) None (drop_left (closing 0 0 ts) ts h) tt)

  some_left_left : (c : Captures) (ts : List Terminal) → Fits ts → IfThere Left (some_left c ts)
  some_left_left c [] h = tt
  some_left_left c (t ∷ ts) h = h

  part_left : (x : Part) (c : Captures) (ts : List Terminal) → Fits ts → IfThere Left (take_part x c ts)
  unfolding take_part
  part_left (p.Word w) c ts h = one_left (is_keyword w) nothing_kept c ts h
  part_left (p.AnyOf class) c ts h = one_left (is_of_class class) nothing_kept c ts h
  part_left (p.Object w) c ts h = one_left (is_keyword w) word_kept c ts h
  part_left (p.MaybeObject w) c ts h = here_left (one (is_keyword w) word_kept c ts) c ts (one_left (is_keyword w) word_kept c ts h) h
  part_left (p.Tell fact) c ts h = h
  part_left (p.Flag w fact) c ts h = here_left (one (is_keyword w) (λ t c. record_fact fact c) c ts) c ts (one_left (is_keyword w) (λ t c. record_fact fact c) c ts h) h
  part_left (p.Either v w) c ts h = here_left (one (λ t. is_keyword v t || is_keyword w t) word_kept c ts) c ts (one_left (λ t. is_keyword v t || is_keyword w t) word_kept c ts h) h
  part_left (p.Maybe x fact) c ts h = here_left (take_phrase x fact c ts) c ts (phrase_left x fact c ts h) h
  part_left p.Chain c ts h = chain_left c ts h
  part_left p.Concurrently c ts h = here_left (one (is_keyword keyword.CONCURRENTLY) concurrently_kept c ts) c ts (one_left (is_keyword keyword.CONCURRENTLY) concurrently_kept c ts h) h
  part_left p.IndexName c ts h = index_left c ts h
  part_left p.Mods c ts h = mods_left c ts h
  part_left p.Name c ts h = one_left is_name name_kept c ts h
  part_left p.Path c ts h = path_left c ts h
  part_left p.AnyName c ts h = one_left is_name nothing_kept c ts h
  part_left p.Str c ts h = one_left (λ t. is_str_symbol t.symbol) name_kept c ts h
  part_left p.List c ts h = list_left c ts h
  part_left p.MaybeList c ts h = here_left (take_list c ts) c ts (list_left c ts h) h
  part_left p.Star c ts h = here_left (one (λ t. is_star_symbol t.symbol) nothing_kept c ts) c ts (one_left (λ t. is_star_symbol t.symbol) nothing_kept c ts h) h
  part_left p.Into c ts h = one_left (is_keyword keyword.INTO) nothing_kept c (from_mark into ts) (drop_left (before into ts) ts h)
  part_left p.Privileges c ts h = some_left_left c (from_mark privileges ts) (drop_left (before privileges ts) ts h)
  part_left p.Rest c ts h = h
  part_left p.Tail c ts h = some_left_left (opened c) ts h

  parts_left : (xs : List Part) (c : Captures) (ts : List Terminal) → Fits ts → IfThere Left (in_turn xs c ts)
  parts_left [] c ts h = h
  parts_left (x ∷ xs) c ts h = from_there Left Left (λ y. in_turn xs y.kept y.left) (λ y k. parts_left xs y.kept y.left k) (take_part x c ts) (part_left x c ts h)

  abbrev pub LeftOf : {K : Type 0} → K × State → Type 0
  LeftOf f = Fits f.1.left

  taken_left : (e : State) → Left e → IfThere Left (all_taken e)
  taken_left e h = if_there Left _ (Some e) None h tt

  finished_left : {K : Type 0} (kind : K) (parts : List Part) (x : State) → Left x → IfThere LeftOf (finished kind parts x)
  finished_left kind parts x h =
      from_there Left LeftOf (λ e. option_and_then (λ w. Some (kind, w)) (all_taken e))
      (λ e k. from_there Left LeftOf (λ w. Some (kind, w)) (λ w l. l) (all_taken e) (taken_left e k)) (in_turn parts x.kept x.left) (parts_left parts x.kept x.left h)

  -- the first row that reads all
  pub whole_left : {K : Type 0} (rows : List (K × List Part)) (ts : List Terminal) → Fits ts → IfThere LeftOf (first_whole rows ts)
  whole_left [] ts h = tt
  whole_left (r ∷ rs) ts h =
      either_there LeftOf (finished r.0 r.1 (at fresh ts)) (first_whole rs ts) (finished_left r.0 r.1 (at fresh ts) h) (whole_left rs ts h)

  led_left : (o : Option State) (r : Row) (other : Option (StmtKind × State)) → IfThere Left o → IfThere LeftOf other → IfThere LeftOf (led_or o r other)
  led_left None r other h k = k
  led_left (Some x) r other h k = finished_left r.0 r.2 x h

  first_left : (rows : List Row) (ts : List Terminal) → Fits ts → IfThere LeftOf (first_led rows ts)
  first_left [] ts h = tt
  first_left (r ∷ rs) ts h = led_left (in_turn r.1 fresh ts) r (first_led rs ts) (parts_left r.1 fresh ts h) (first_left rs ts h)

  kind_left : (o : Option StmtKind) (rows : List Row) (ts : List Terminal) → Fits ts → IfThere LeftOf (kind_or_row o rows ts)
  kind_left (Some kind) rows ts h = h
  kind_left None rows ts h = first_left rows ts h

  word_led_left : (w : Keyword) (ts : List Terminal) → Fits ts → IfThere LeftOf (led_by w ts)
  unfolding led_by
  word_led_left w ts h = kind_left (one_word_kind w) (rows_of w ts) ts h

  pub front_left : (y : Symbol) (ts : List Terminal) → Fits ts → IfThere LeftOf (front_by y ts)
  unfolding front_by
  front_left (s.Keyword w) ts h = word_led_left w ts h
  front_left s.OpenRound ts h = h
  front_left _ ts h = tt

  verb_by : (b : Bool) (xs ts : List Terminal) → Fits xs → Fits ts → Fits (if b then xs else ts)
  verb_by true xs ts h k = h
  verb_by false xs ts h k = k

  pub verb_left : (ts : List Terminal) → Fits ts → Fits (from_verb ts)
  unfolding from_verb
  verb_left [] h = h
  verb_left (t ∷ ts) h = verb_by (is_keyword keyword.WITH t) _ (t ∷ ts) (drop_left _ ts (tail t ts h)) h
