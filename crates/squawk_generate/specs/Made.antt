-- The made text: groups of statements, each on a line of its own.
use Rattle.std.specs.Prelude.{ℕ, zero, suc, ◌%◌, ◌==◌, List, [], ◌++◌, codes, decimal, if◌then◌else◌}

-- an index on a table
unfoldable pub index_on : List ℕ → List ℕ
index_on number = codes "CREATE INDEX i" ++ number ++ codes " ON t" ++ number ++ codes " (id);"

-- a new table and an index on it, in one transaction
abbrev pub table_group : List ℕ → List ℕ
table_group number = codes "BEGIN; CREATE TABLE t" ++ number ++ codes " (id int); " ++ index_on number ++ codes " COMMIT;\n"

-- an index on a table that exists
abbrev pub index_group : List ℕ → List ℕ
index_group number = index_on number ++ codes "\n"

-- a constraint that is checked at once
abbrev pub constraint_group : List ℕ → List ℕ
constraint_group number = codes "ALTER TABLE t" ++ number ++ codes " ADD CONSTRAINT c" ++ number ++ codes " CHECK (id > 0);\n"

-- a column without a default
abbrev pub column_group : List ℕ → List ℕ
column_group number = codes "ALTER TABLE t" ++ number ++ codes " ADD COLUMN a" ++ number ++ codes " text;\n"

-- the four kinds in turn
abbrev pub group_by : ℕ → List ℕ → List ℕ
group_by kind number =
    if kind == 0 then table_group number
    else (if kind == 1 then index_group number
    else (if kind == 2 then constraint_group number
    else column_group number))

-- the group with a number, in which the number is part of each name
unfoldable pub group : ℕ → List ℕ
group i = group_by (i % 4) (decimal i)

-- the groups below a number, one after the other
unfoldable pub made : ℕ → List ℕ
made zero = []
made (suc n) = made n ++ group n
