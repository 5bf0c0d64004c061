-- The order of the rows, by computation.
use Rattle.std.proofs.Common.{◌≡◌, true, refl}
use Rattle.sql_token.specs.sql_keyword.declared.words.Keyword.TheVariants as k
use Rattle.sql_token.specs.sql_keyword.declared.words.Verb.TheVariants as verbs
use Rattle.sql_token.specs.sql_keyword.declared.words.Other.TheVariants as others
use Rattle.sql_token.specs.sql_keyword.Same.{same_keyword}
use Rattle.sql_tree.specs.declared.forms.Family.{Family}
use Rattle.sql_tree.specs.declared.forms.Family.TheVariants as family
use Rattle.sql_tree.specs.Forms.{words_of, family_of, family_first, create_rows, alter_rows, drop_rows, rows_of}
use Rattle.std.specs.List.{list_all}
use Rattle.sql_tree.specs.Leads.{longest_first, is_found, LongestLeadWins, LeadsInTheirFamily}

create_first : (f : Family) → longest_first (create_rows f) ≡ true
unfolding create_rows same_keyword words_of
create_first family.Relation = refl
create_first family.Code = refl
create_first family.DataType = refl
create_first family.Service = refl
create_first family.Other = refl

alter_first : (f : Family) → longest_first (alter_rows f) ≡ true
unfolding alter_rows same_keyword words_of
alter_first family.Relation = refl
alter_first family.Code = refl
alter_first family.DataType = refl
alter_first family.Service = refl
alter_first family.Other = refl

drop_first : (f : Family) → longest_first (drop_rows f) ≡ true
unfolding drop_rows same_keyword words_of
drop_first family.Relation = refl
drop_first family.Code = refl
drop_first family.DataType = refl
drop_first family.Service = refl
drop_first family.Other = refl

pub longest_lead_wins : LongestLeadWins
unfolding rows_of same_keyword words_of
longest_lead_wins (k.Verb verbs.Create) ts = create_first (family_first ts)
longest_lead_wins (k.Verb verbs.Alter) ts = alter_first (family_first ts)
longest_lead_wins (k.Verb verbs.Drop) ts = drop_first (family_first ts)
longest_lead_wins (k.Other others.Security) ts = refl
longest_lead_wins _ ts = refl

pub leads_in_their_family : LeadsInTheirFamily
unfolding create_rows alter_rows drop_rows family_of words_of same_keyword
leads_in_their_family = record { create = create; alter = alter; drop = drop }
  where
    create : (f : Family) → list_all (is_found create_rows) (create_rows f) ≡ true
    create family.Relation = refl
    create family.Code = refl
    create family.DataType = refl
    create family.Service = refl
    create family.Other = refl

    alter : (f : Family) → list_all (is_found alter_rows) (alter_rows f) ≡ true
    alter family.Relation = refl
    alter family.Code = refl
    alter family.DataType = refl
    alter family.Service = refl
    alter family.Other = refl

    drop : (f : Family) → list_all (is_found drop_rows) (drop_rows f) ≡ true
    drop family.Relation = refl
    drop family.Code = refl
    drop family.DataType = refl
    drop family.Service = refl
    drop family.Other = refl
