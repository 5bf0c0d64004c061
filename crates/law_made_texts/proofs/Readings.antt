-- What made groups are read as.
use Rattle.std.proofs.Common.{◌≡◌, ◌∙◌, ℕ, ◌+◌, true, cond, List, [], ◌∷◌, codes, refl, ap, sym, lit<, Ok, Err, Result}
use Rattle.law_joined_texts.specs.sql_keyword.Find.{keyword_of}
use Rattle.law_joined_texts.specs.sql_keyword.Same.{same_keyword}
use Rattle.law_joined_texts.specs.sql_keyword.Texts.{all_keywords, text}
use Rattle.law_joined_texts.specs.sql_token.declared.token.TokKind.TheVariants.{Word}
use Rattle.law_joined_texts.specs.sql_token.Chunks.{chunks}
use Rattle.law_joined_texts.specs.sql_token.Depth.{has_keyword, statements}
use Rattle.law_joined_texts.specs.sql_token.Sound.{begins_atomic, is_sound}
use Rattle.law_joined_texts.specs.sql_token.Terminal.{is_closer, is_dot, is_keyword, is_name, is_opener, is_round, is_semicolon, is_significant, is_unicode_name, symbol_of, word_symbol}
use Rattle.law_joined_texts.specs.sql_tree.Action.{action, actions_of, add_constraint, added_constraint, after_column, after_name, begins_domain_constraint, built, by_rows, column_in, general_action, listed_action, one_action, options, own_action, own_part, pieces_in, several_actions, takes_constraint, unlisted_action}
use Rattle.law_joined_texts.specs.sql_tree.ActionRows.{first_rows, first_rows_at, general_rows, general_rows_at, own_rows}
use Rattle.law_joined_texts.specs.sql_tree.Column.{column, drops_on_commit, element, elements, leads_constraint}
use Rattle.law_joined_texts.specs.sql_tree.ColumnMarks.{constraint_head, constraint_start, first_kind, is_bound, kind_after_name, kind_led, type_end, value_end}
use Rattle.law_joined_texts.specs.sql_tree.ColumnType.{arguments, array_by_groups, array_by_word, array_of, before_groups, column_type, ends_with, no_group, only_groups, path_type, plain_type, type_len, word_type}
use Rattle.law_joined_texts.specs.sql_tree.Constraint.{after_exclude, after_two, by_index, column_constraint, column_constraints, column_kind, constraint_in, constraint_kind, constraint_name, default_value, table_constraint, two_word_kind, value_in}
use Rattle.law_joined_texts.specs.sql_tree.Constraint.{named as named_constraint}
use Rattle.law_joined_texts.specs.sql_tree.Expression.{after_path, all_full, cast_at, cast_call, ends_not_null, expression_of, is_literal, is_not_null, leaf, shape_of}
use Rattle.law_joined_texts.specs.sql_tree.Expression.{named as named_value, tree as value_tree}
use Rattle.law_joined_texts.specs.sql_tree.Forms.{alter_rows, create_rows, family_of, led_by, one_word_kind, rows_of, take_part, words_of}
use Rattle.law_joined_texts.specs.sql_tree.Groups.{inside_list, is_list, is_square, path_first}
use Rattle.law_joined_texts.specs.sql_tree.Pieces.{pieces}
use Rattle.law_joined_texts.specs.sql_tree.Split.{after_list, before, cast, comma, not_valid, on_commit_drop, operator, split, word}
use Rattle.law_joined_texts.specs.sql_tree.declared.nodes.Stmt.{Stmt}
use Rattle.law_joined_texts.specs.sql_tree.Statement.{all_statements, body_by, body_shape_of, final_kind, form_from, form_of, from_verb, front_by, statement, kind_and_body}
use Rattle.law_joined_texts.specs.sql_tree.Words.{is_of_class}
use Rattle.law_joined_texts.specs.law_edit_tokens.Exchange.{Made}
use Rattle.law_joined_texts.specs.law_edit_tokens.Terminals.{made_terms}
use Rattle.law_joined_texts.specs.Joined.{ends_in_semicolon}
use Rattle.law_made_texts.proofs.Groups.{alter_toks, blank, column_made, column_toks, constraint_made, constraint_toks, feed, index_made, index_toks, semicolon, table_made}
use Rattle.law_made_texts.proofs.Names.{IsNumber, name_free}

-- ---- tokens that are the same to the grammar

abbrev pub SameSymbols : List Made → List Made → Type 0
SameSymbols [] [] = Unit {0}
SameSymbols (p ∷ ps) (q ∷ qs) = (p.0 ≡ q.0) × (symbol_of p.0 p.1 ≡ symbol_of q.0 q.1) × SameSymbols ps qs
SameSymbols _ _ = ⊥

pub terms_alike : (n : ℕ) (ps qs : List Made) → SameSymbols ps qs → made_terms n ps ≡ made_terms n qs
unfolding made_terms
terms_alike n [] [] h = refl
terms_alike n [] (q ∷ qs) h = absurd h
terms_alike n (p ∷ ps) [] h = absurd h
terms_alike n (p ∷ ps) (q ∷ qs) h =
    let rest = terms_alike (n + 1) ps qs h.2 in
    λ i. cond (is_significant (h.0 i)) (record { symbol = h.1 i; number = n } ∷ rest i) (rest i)

-- a name is the same to the grammar, whatever its number is
zero : IsNumber (codes "0")
zero = record { some = lit< tt; digits = refl }

module _ (number : List ℕ) (is : IsNumber number) where
  named : (letter : ℕ) → symbol_of Word (letter ∷ number) ≡ symbol_of Word (letter ∷ codes "0")
  unfolding symbol_of
  named letter = ap word_symbol (name_free letter number is ∙ sym (name_free letter (codes "0") zero))

  index_alike : (after : List Made) → SameSymbols after after → SameSymbols (index_toks number after) (index_toks (codes "0") after)
  index_alike after h = (refl, refl, (refl, refl, (refl, refl, (refl, refl, (refl, named 105, (refl, refl, (refl, refl, (refl, refl, (refl, named 116, (refl, refl, (refl, refl, (refl, refl, (refl, refl, (refl, refl, h))))))))))))))

  pub index_same : SameSymbols (index_made number) (index_made (codes "0"))
  index_same = index_alike (feed ∷ []) (refl, refl, tt)

  pub table_same : SameSymbols (table_made number) (table_made (codes "0"))
  table_same = (refl, refl, (refl, refl, (refl, refl, (refl, refl, (refl, refl, (refl, refl, (refl, refl, (refl, named 116, (refl, refl, (refl, refl, (refl, refl, (refl, refl, (refl, refl, (refl, refl, (refl, refl, (refl, refl, index_alike (blank ∷ (Word, codes "COMMIT") ∷ semicolon ∷ feed ∷ []) (refl, refl, (refl, refl, (refl, refl, (refl, refl, tt))))))))))))))))))))

  alter_alike : (after after' : List Made) → SameSymbols after after' → SameSymbols (alter_toks number after) (alter_toks (codes "0") after')
  alter_alike after after' h = (refl, refl, (refl, refl, (refl, refl, (refl, refl, (refl, named 116, (refl, refl, (refl, refl, (refl, refl, h))))))))

  pub constraint_same : SameSymbols (constraint_made number) (constraint_made (codes "0"))
  constraint_same = alter_alike (constraint_toks number) (constraint_toks (codes "0")) (refl, refl, (refl, refl, (refl, named 99, (refl, refl, (refl, refl, (refl, refl, (refl, refl, (refl, refl, (refl, refl, (refl, refl, (refl, refl, (refl, refl, (refl, refl, (refl, refl, (refl, refl, tt)))))))))))))))

  pub column_same : SameSymbols (column_made number) (column_made (codes "0"))
  column_same = alter_alike (column_toks number) (column_toks (codes "0")) (refl, refl, (refl, refl, (refl, named 97, (refl, refl, (refl, refl, (refl, refl, (refl, refl, tt)))))))

-- ---- the groups of number 0 are read

abbrev pub reading : List Made → Result (List Stmt) ℕ
reading ps = all_statements (statements (made_terms 0 ps))

abbrev pub read_of : Result (List Stmt) ℕ → List Stmt
read_of (Ok stmts) = stmts
read_of (Err at) = []

pub index_read : reading (index_made (codes "0")) ≡ Ok (read_of (reading (index_made (codes "0"))))
unfolding made_terms symbol_of keyword_of text all_keywords statements chunks is_sound begins_atomic statement form_of form_from from_verb front_by kind_and_body body_by body_shape_of final_kind led_by one_word_kind rows_of family_of take_part words_of is_of_class same_keyword is_keyword is_name is_opener is_closer is_round is_semicolon is_dot is_unicode_name is_list inside_list is_square path_first after_list create_rows has_keyword
index_read = refl

pub index_ends : ends_in_semicolon (made_terms 0 (index_made (codes "0"))) ≡ true
unfolding made_terms symbol_of keyword_of text all_keywords is_semicolon
index_ends = refl

pub table_read : reading (table_made (codes "0")) ≡ Ok (read_of (reading (table_made (codes "0"))))
unfolding made_terms symbol_of keyword_of text all_keywords statements chunks is_sound begins_atomic statement form_of form_from from_verb front_by kind_and_body body_by body_shape_of final_kind led_by one_word_kind rows_of family_of take_part words_of is_of_class same_keyword is_keyword is_name is_opener is_closer is_round is_semicolon is_dot is_unicode_name is_list inside_list is_square path_first after_list create_rows has_keyword elements element leads_constraint column drops_on_commit on_commit_drop split comma before kind_led first_kind is_bound kind_after_name constraint_start constraint_head type_end value_end type_len arguments array_by_groups array_by_word array_of before_groups column_type ends_with no_group only_groups path_type plain_type word_type column_constraint column_constraints column_kind constraint_kind constraint_name two_word_kind after_two named_constraint pieces word
table_read = refl

pub table_ends : ends_in_semicolon (made_terms 0 (table_made (codes "0"))) ≡ true
unfolding made_terms symbol_of keyword_of text all_keywords is_semicolon
table_ends = refl

pub constraint_read : reading (constraint_made (codes "0")) ≡ Ok (read_of (reading (constraint_made (codes "0"))))
unfolding made_terms symbol_of keyword_of text all_keywords statements chunks is_sound begins_atomic statement form_of form_from from_verb front_by kind_and_body body_by body_shape_of final_kind led_by one_word_kind rows_of family_of take_part words_of is_of_class same_keyword is_keyword is_name is_opener is_closer is_round is_semicolon is_dot is_unicode_name is_list inside_list is_square path_first after_list alter_rows actions_of several_actions one_action action unlisted_action options listed_action general_action own_action own_part own_rows first_rows first_rows_at general_rows general_rows_at by_rows built column_in pieces_in after_name after_column added_constraint takes_constraint begins_domain_constraint add_constraint elements element leads_constraint column drops_on_commit on_commit_drop split comma before kind_led first_kind is_bound kind_after_name constraint_start constraint_head type_end value_end type_len arguments array_by_groups array_by_word array_of before_groups column_type ends_with no_group only_groups path_type plain_type word_type column_constraint column_constraints column_kind constraint_kind constraint_name two_word_kind after_two named_constraint pieces word table_constraint constraint_in by_index default_value value_in not_valid expression_of value_tree shape_of leaf named_value after_path is_literal cast_call cast_at cast all_full operator ends_not_null is_not_null
constraint_read = refl

pub constraint_ends : ends_in_semicolon (made_terms 0 (constraint_made (codes "0"))) ≡ true
unfolding made_terms symbol_of keyword_of text all_keywords is_semicolon
constraint_ends = refl

pub column_read : reading (column_made (codes "0")) ≡ Ok (read_of (reading (column_made (codes "0"))))
unfolding made_terms symbol_of keyword_of text all_keywords statements chunks is_sound begins_atomic statement form_of form_from from_verb front_by kind_and_body body_by body_shape_of final_kind led_by one_word_kind rows_of family_of take_part words_of is_of_class same_keyword is_keyword is_name is_opener is_closer is_round is_semicolon is_dot is_unicode_name is_list inside_list is_square path_first after_list alter_rows actions_of several_actions one_action action unlisted_action options listed_action general_action own_action own_part own_rows first_rows first_rows_at general_rows general_rows_at by_rows built column_in pieces_in after_name after_column added_constraint takes_constraint begins_domain_constraint add_constraint elements element leads_constraint column drops_on_commit on_commit_drop split comma before kind_led first_kind is_bound kind_after_name constraint_start constraint_head type_end value_end type_len arguments array_by_groups array_by_word array_of before_groups column_type ends_with no_group only_groups path_type plain_type word_type column_constraint column_constraints column_kind constraint_kind constraint_name two_word_kind after_two named_constraint pieces word table_constraint after_exclude
column_read = refl

pub column_ends : ends_in_semicolon (made_terms 0 (column_made (codes "0"))) ≡ true
unfolding made_terms symbol_of keyword_of text all_keywords is_semicolon
column_ends = refl
