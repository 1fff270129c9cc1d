-- Prices worked by hand as one table, and one fact that covers all its rows (specification 18.4 to 18.8): lines and their rounding, totals, and which
-- refusal comes first. Beside it a total of more than 64 bits.
use Rattle.std.specs.Prelude.{ℕ, ◌≡◌, refl, Bool, true, ◌&&◌, List, [], ◌∷◌, ◌++◌, eqb, length, take}
use Rattle.std.proofs.Math.Option.{Option, none, some}
use Rattle.lists.specs.Bytes.{be_at, bytes_of}
use Rattle.lists.specs.Rows.{values, joined}
use Rattle.lists.specs.First.{first, first_from}
use Rattle.lists.specs.Sets.{all}
use Rattle.model.specs.Objects.{the_objects, depots, everything, is_map, is_cell, hosted}
use Rattle.model.specs.Rules.{lowest}
use Rattle.model.specs.Directory.{record_at, ok_record, at_fault, shape_of, record_bytes, directory_of, listed_in, fault_of}
use Rattle.model.specs.Table.{Cell, cell_at, cell_bytes, cells_of, in_order}
use Rattle.model.specs.Answers.{Answer, done, refused}
use Rattle.model.specs.Append.{Replica}
use Rattle.model.specs.Pricing.{mark_price, Price, price_at, ok_price, prices_in, bad_prices, line_of, price_of, unpriced, total, price, high_part, low_part}
use Rattle.model.specs.Worked.{code, tells, same_offset}

-- a price: key, cents, break quantity, percent off; and its bytes
abbrev at : ℕ → ℕ → ℕ → ℕ → Price
at k c f p = record { key = k; cents = c; from = f; percent = p }

abbrev bytes : Price → List ℕ
bytes p = bytes_of 2 mark_price ++ bytes_of 2 0 ++ bytes_of 4 p.key ++ bytes_of 4 p.cents ++ bytes_of 4 p.from ++ bytes_of 4 p.percent

abbrev list : List Price → List ℕ
list ps = joined bytes ps

-- a row of an object: key and quantity; and a removed one, whose value is left over
abbrev row : ℕ → ℕ → ℕ → Cell
row o k q = record { object = o; key = k; value = q; present = 1; version = 1 }

abbrev gone : ℕ → ℕ → ℕ → Cell
gone o k q = record { object = o; key = k; value = q; present = 0; version = 2 }

pub data Row : Type 0 where
  -- a quantity, a price, and the line
  line : ℕ → Price → ℕ → Row
  -- the rows of a table, an object and the bytes of a price list: the total
  costs : List Cell → ℕ → List ℕ → ℕ → Row
  -- the same, and the refusal with what it tells
  stopped : List Cell → ℕ → List ℕ → ℕ → Option ℕ → Row
  -- the same for a hosted set and a count of rows
  handed : ℕ → ℕ → List Cell → ℕ → List ℕ → ℕ → Row
  -- a directory's bytes, and what a call that is bad in every other way is answered and told
  judged : List ℕ → ℕ → Option ℕ → Row

-- a record of all objects, or of a set, at position 9
abbrev holding : ℕ → ℕ → Replica
holding set n = record { hosting = set; position = 9; count = n }

abbrev priced : List Cell → ℕ → List ℕ → Answer ℕ
priced cs o s = price depots (holding (everything depots) (length cs)) (joined cell_bytes cs) o s

abbrev is_done : Answer ℕ → ℕ → Bool
is_done (done t) n = eqb t n
is_done (refused r) n = eqb 0 1

unfoldable pub row_holds : Row → Bool
row_holds (line q p n) = eqb (line_of q p) n
row_holds (costs cs o s n) = is_done (priced cs o s) n
row_holds (stopped cs o s n told) = let a = priced cs o s in eqb (code a) n && same_offset (tells a) told
row_holds (handed set n cs o s a) = eqb (code (price depots (holding set n) (joined cell_bytes cs) o s)) a
row_holds (judged dir n told) = let a = price (shape_of dir) (holding 0 1) [] 0 (0 ∷ []) in eqb (code a) n && same_offset (tells a) told

abbrev pub priced_rows : List Row
priced_rows =
    -- from the break quantity on, and below it
    line 3 (at 7 333 3 10) 899 ∷ line 2 (at 7 333 3 10) 666 ∷ line 4 (at 7 333 3 10) 1199
    -- a half is rounded upward, also where the discount's half would be; less than a half is not
    ∷ line 1 (at 0 1 0 50) 1 ∷ line 5 (at 0 1 0 50) 3 ∷ line 7 (at 0 105 5 15) 625 ∷ line 1 (at 0 49 0 99) 0 ∷ line 1 (at 0 149 0 99) 1 ∷ line 1 (at 0 150 0 99) 2
    -- the percent is off the whole line, 0 and 100 are percents, and break quantity 0 is for every line
    ∷ line 10 (at 0 100 5 20) 800 ∷ line 9 (at 0 5 0 0) 45 ∷ line 9 (at 0 5 0 100) 0 ∷ line 9 (at 0 0 0 10) 0 ∷ line 4294967295 (at 0 9999999 4294967295 0) 42949668655032705
    -- 3 and 2 of object 5, beside a row of object 2 and of object 6; a price that is for none of them
    ∷ costs (row 2 7 100 ∷ row 5 7 3 ∷ row 5 9 2 ∷ row 6 0 50 ∷ []) 5 (list (at 7 333 3 10 ∷ at 8 1 0 0 ∷ at 9 250 0 0 ∷ [])) 1399
    ∷ costs (row 2 7 100 ∷ row 5 7 3 ∷ []) 2 (list (at 7 333 3 10 ∷ [])) 29970
    -- each line is rounded, not the sum
    ∷ costs (row 5 1 1 ∷ row 5 2 1 ∷ []) 5 (list (at 1 1 0 50 ∷ at 2 1 0 50 ∷ [])) 2
    -- an empty list of prices; a removed cell, a quantity 0 and a row past the highest key need none and cost nothing
    ∷ costs [] 5 [] 0 ∷ costs (row 2 7 3 ∷ []) 5 [] 0
    ∷ costs (gone 5 7 3 ∷ row 5 8 0 ∷ row 5 10000 4 ∷ []) 5 [] 0
    ∷ costs (gone 5 7 3 ∷ row 5 8 0 ∷ row 5 9999 1 ∷ row 5 10000 4 ∷ []) 5 (list (at 7 1 0 0 ∷ at 8 1 0 0 ∷ at 9999 5 0 0 ∷ at 10000 1 0 0 ∷ at 4294967295 1 0 0 ∷ [])) 5
    -- the record's bytes as they are written out
    ∷ costs (row 5 7 3 ∷ []) 5 (0x50 ∷ 0x52 ∷ 0 ∷ 0 ∷ 0 ∷ 0 ∷ 0 ∷ 7 ∷ 0 ∷ 0 ∷ 1 ∷ 0x4D ∷ 0 ∷ 0 ∷ 0 ∷ 3 ∷ 0 ∷ 0 ∷ 0 ∷ 0x0A ∷ []) 899
    ∷ costs (row 5 0x0102 0x01020304 ∷ []) 5 (list (at 0x0102 0x00030201 0x01020304 1 ∷ [])) 3299799508097
    -- 19 tells the lowest key, and no key past the highest
    ∷ stopped (row 2 1 1 ∷ row 5 3 1 ∷ row 5 7 3 ∷ row 5 9 2 ∷ row 5 10000 4 ∷ []) 5 (list (at 1 1 0 0 ∷ at 3 1 0 0 ∷ at 8 1 0 0 ∷ [])) 19 (some 7)
    -- cents and percent within their bounds, and one over
    ∷ costs (row 5 1 1 ∷ []) 5 (list (at 1 9999999 0 0 ∷ [])) 9999999 ∷ stopped [] 5 (list (at 1 10000000 0 0 ∷ [])) 3 none
    ∷ costs (row 5 1 1 ∷ []) 5 (list (at 1 8 0 100 ∷ [])) 0 ∷ stopped [] 5 (list (at 1 8 0 101 ∷ [])) 3 none
    -- equal keys and falling ones; 19 bytes, and 21; a wrong mark, and bytes that are not zero
    ∷ stopped [] 5 (list (at 1 8 0 0 ∷ at 1 8 0 0 ∷ [])) 3 none ∷ stopped [] 5 (list (at 1 8 0 0 ∷ at 3 8 0 0 ∷ at 2 8 0 0 ∷ [])) 3 none
    ∷ stopped [] 5 (take 19 (list (at 1 8 0 0 ∷ []))) 3 none ∷ stopped [] 5 (list (at 1 8 0 0 ∷ []) ++ (0 ∷ [])) 3 none
    ∷ stopped [] 5 (0x50 ∷ 0x53 ∷ take 18 (joined (bytes_of 1) (0 ∷ 0 ∷ 0 ∷ 0 ∷ 0 ∷ 7 ∷ 0 ∷ 0 ∷ 0 ∷ 1 ∷ 0 ∷ 0 ∷ 0 ∷ 0 ∷ 0 ∷ 0 ∷ 0 ∷ 0 ∷ []))) 3 none
    ∷ stopped [] 5 (0x50 ∷ 0x52 ∷ 0 ∷ 1 ∷ 0 ∷ 0 ∷ 0 ∷ 7 ∷ 0 ∷ 0 ∷ 0 ∷ 1 ∷ 0 ∷ 0 ∷ 0 ∷ 0 ∷ 0 ∷ 0 ∷ 0 ∷ 0 ∷ []) 3 none
    -- 3 before 19: a register, no object, an object that is not hosted, a bad list
    ∷ stopped (row 6 0 1 ∷ []) 6 [] 3 none ∷ stopped (row 9 0 1 ∷ []) 9 [] 3 none ∷ handed 0x02 1 (row 5 1 1 ∷ []) 5 [] 3
    ∷ stopped (row 5 1 1 ∷ []) 5 (list (at 2 8 0 101 ∷ [])) 3 none
    -- 10 before 3: rows out of order, a cell twice, no set, a bit past the directory, a count past the table
    ∷ stopped (row 5 2 1 ∷ row 5 1 1 ∷ []) 6 (0 ∷ []) 10 none ∷ stopped (row 5 1 1 ∷ row 5 1 1 ∷ []) 5 [] 10 none
    ∷ handed 0 0 [] 5 [] 10 ∷ handed 0x0110 0 [] 5 [] 10 ∷ handed 0x10 2 (row 5 1 1 ∷ []) 5 [] 10 ∷ handed 0x10 1 (row 5 1 1 ∷ []) 5 [] 19
    -- 15 before 10
    ∷ judged [] 15 (some 0) ∷ judged (take 40 (directory_of the_objects)) 15 (some 2) ∷ judged (directory_of the_objects) 10 none
    ∷ []

pub all-priced : all row_holds priced_rows ≡ true
unfolding be_at bytes_of values joined row_holds cell_at cell_bytes cells_of in_order hosted is_map is_cell price_at ok_price prices_in bad_prices price_of unpriced total price lowest first first_from record_at ok_record at_fault record_bytes directory_of listed_in fault_of
all-priced = refl

-- Keys 0 to n - 1 with the greatest quantity at the greatest price, then two more that make the sum 2 ^ 64, or one cent less.
abbrev most : ℕ → Cell
most k = row 5 k 4294967295

abbrev dear : ℕ → Price
dear k = at k 9999999 0 0

abbrev sum : List Cell → List Price → ℕ
sum cs ps = total depots 5 ps cs

abbrev parts : ℕ → ℕ → ℕ → Bool
parts t high low = eqb (high_part t) high && eqb (low_part t) low

pub wide-total : (
    parts (sum (values most 0 430) (values dear 0 430)) 1 21613447954511534
    && parts (sum (values most 0 429 ++ (row 5 429 2133622283 ∷ row 5 430 1 ∷ [])) (values dear 0 430 ++ (at 430 4143454 0 0 ∷ []))) 1 0
    && parts (sum (values most 0 429 ++ (row 5 429 2133622283 ∷ row 5 430 1 ∷ [])) (values dear 0 430 ++ (at 430 4143453 0 0 ∷ []))) 0 18446744073709551615) ≡ true
unfolding values is_cell price_of total
wide-total = refl
