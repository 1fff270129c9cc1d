-- What an order costs: the price of one map of a replica, by a list of price records (specification §18).
use Rattle.std.specs.Prelude.{ℕ, ◌+◌, ◌-◌, ◌*◌, ◌/◌, ◌%◌, ◌^◌, Bool, cond, not, ◌&&◌, ◌||◌, List, [], ◌∷◌, eqb, leb, ltb, length}
use Rattle.std.proofs.Math.Option.{Option, none, some}
use Rattle.lists.specs.Bytes.{be_at}
use Rattle.lists.specs.Rows.{values}
use Rattle.lists.specs.Sets.{all, mem, ascending}
use Rattle.model.specs.Objects.{Shape, is_map, is_cell, hosted}
use Rattle.model.specs.Entries.{if_some, is_none}
use Rattle.model.specs.Table.{Cell, cells_of}
use Rattle.model.specs.Answers.{Answer, refuse, refuse_at, first_of, answer, bad_directory}
use Rattle.model.specs.Append.{Replica, bad_record}

-- ---- price records

-- a record's bytes, its mark (bytes 0 and 1 as one number), and the most that its fields may be (18.2)
abbrev pub price_size : ℕ
price_size = 20

abbrev pub mark_price : ℕ
mark_price = 0x5052

abbrev pub most_cents : ℕ
most_cents = 9999999

abbrev pub most_percent : ℕ
most_percent = 100

pub record Price : Type 0 where
  pub key : ℕ
  pub cents : ℕ
  -- the break quantity, and the percent off from it on
  pub from : ℕ
  pub percent : ℕ

-- the record at byte i (18.2)
unfoldable pub price_at : List ℕ → ℕ → Price
price_at s i = record { key = be_at 4 s (i + 4); cents = be_at 4 s (i + 8); from = be_at 4 s (i + 12); percent = be_at 4 s (i + 16) }

-- its mark, its zero bytes, and its fields in range; the key may be any (18.2, 18.3)
unfoldable pub ok_price : List ℕ → ℕ → Bool
ok_price s i = eqb (be_at 2 s i) mark_price && eqb (be_at 2 s (i + 2)) 0 && leb (be_at 4 s (i + 8)) most_cents && leb (be_at 4 s (i + 16)) most_percent

-- by key
abbrev pub price_before : Price → Price → Bool
price_before p q = ltb p.key q.key

-- how many records there are, and which
abbrev pub price_count : List ℕ → ℕ
price_count s = length s / price_size

unfoldable pub prices_in : List ℕ → List Price
prices_in s = values (λ k. price_at s (price_size * k)) 0 (price_count s)

-- 3: a cut record, one out of its rules, or keys that do not ascend strictly (18.7)
unfoldable pub bad_prices : List ℕ → Bool
bad_prices s = not (eqb (length s % price_size) 0) || not (all (ok_price s) (values (λ k. price_size * k) 0 (price_count s))) || not (ascending price_before (prices_in s))

-- ---- lines

-- hundredths to the nearest whole, a half upward (18.4)
abbrev pub nearest : ℕ → ℕ
nearest n = (n + 50) / 100

-- the line of a quantity: from the break quantity on the whole of it is lowered by the percent, and rounded (18.4)
abbrev pub line_of : ℕ → Price → ℕ
line_of q p = cond (leb p.from q) (nearest (q * p.cents * (most_percent - p.percent))) (q * p.cents)

-- the record of a key
unfoldable pub price_of : List Price → ℕ → Option Price
price_of [] k = none
price_of (p ∷ ps) k = cond (eqb p.key k) (some p) (price_of ps k)

-- a row that is a line: a cell of map o that is present, with a quantity over 0 (18.5)
abbrev pub is_line : Shape → ℕ → Cell → Bool
is_line sh o c = eqb c.object o && is_cell sh o c.key && eqb c.present 1 && ltb 0 c.value

-- the first line without a price: rows are in order, so its key is the lowest (18.7)
unfoldable pub unpriced : Shape → ℕ → List Price → List Cell → Option ℕ
unpriced sh o ps [] = none
unpriced sh o ps (c ∷ cs) = cond (is_line sh o c && is_none (price_of ps c.key)) (some c.key) (unpriced sh o ps cs)

-- the sum of the rounded lines; one without a price, which 19 turns down, counts nothing (18.6)
unfoldable pub total : Shape → ℕ → List Price → List Cell → ℕ
total sh o ps [] = 0
total sh o ps (c ∷ cs) = cond (is_line sh o c) (if_some (price_of ps c.key) 0 (line_of c.value)) 0 + total sh o ps cs

-- ---- the call

-- 3: not a hosted map, or a bad list of prices (18.7)
abbrev pub bad_order : Shape → Replica → ℕ → List ℕ → Bool
bad_order sh r o s = not (mem o (hosted sh r.hosting) && is_map sh o) || bad_prices s

-- Price: 15, 10 (no tail is given, so position is not tested), 3, 19. The total in cents (18.7).
unfoldable pub price : Shape → Replica → List ℕ → ℕ → List ℕ → Answer ℕ
price sh r table o s =
    answer (first_of (bad_directory sh ∷ refuse 10 (bad_record sh r table) ∷ refuse 3 (bad_order sh r o s)
    ∷ refuse_at 19 (unpriced sh o (prices_in s) (cells_of table r.count)) ∷ []))
    (total sh o (prices_in s) (cells_of table r.count))

-- a total is handed out as two numbers of 64 bits (18.6)
abbrev pub high_part : ℕ → ℕ
high_part t = t / 2 ^ 64

abbrev pub low_part : ℕ → ℕ
low_part t = t % 2 ^ 64
