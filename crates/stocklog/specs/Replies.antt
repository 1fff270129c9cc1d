-- What a C caller gets of an answer: the returned number, and the numbers of `out`. `coded` says it for every call; the
-- definitions after it say which values a call's answer has.
use Rattle.std.specs.Prelude.{List, [], ◌∷◌, ◌++◌, ℕ, zero, suc, ◌*◌, length, take, drop, get_or}
use Rattle.std.proofs.Math.Option.{Option, none, some}
use Rattle.model.specs.Slot.{item_size}
use Rattle.model.specs.Objects.{Shape}
use Rattle.model.specs.Entries.{Held, Log}
use Rattle.model.specs.Answers.{Answer, done, refused}
use Rattle.model.specs.Reading.{Header, Info, entry_call, Next, Listed}
use Rattle.model.specs.Append.{Replica, Appended}
use Rattle.model.specs.Replica.{Left}
use Rattle.model.specs.Pricing.{high_part, low_part}
use Rattle.codec.specs.Eight.{items_at}

-- the three values of `out`
pub record Values : Type 0 where
  pub first : ℕ
  pub second : ℕ
  pub third : ℕ

abbrev pub values : ℕ → ℕ → ℕ → Values
values a b c = record { first = a; second = b; third = c }

abbrev pub no_values : Values
no_values = values 0 0 0

-- the returned number, and `out` at exit
pub record Reply : Type 0 where
  pub number : ℕ
  pub out : List ℕ

abbrev pub reply : ℕ → Values → ℕ → Reply
reply n v o = record { number = n; out = v.first ∷ v.second ∷ v.third ∷ o ∷ [] }

abbrev pub or_zero : Option ℕ → ℕ
or_zero none = 0
or_zero (some o) = o

-- Done: 0, and in `out` the call's three values and 0.
-- Refused: its number (13.3), and in `out` what the call says beside a refusal, and what is told or 0.
abbrev pub coded : {A : Type 0} → (A → Values) → Values → Answer A → Reply
coded said beside (done a) = reply 0 (said a) 0
coded said beside (refused r) = reply r.number beside (or_zero r.told)

-- the same, with a lent slice as it is left
pub record Replied : Type 0 where
  pub reply : Reply
  pub lent : List ℕ

-- ---- reading a log

abbrev pub check_reply : Answer (Unit {0}) → Reply
check_reply a = coded (λ u. no_values) no_values a

-- 1 and the offset, or 0
abbrev pub offset_values : Option ℕ → Values
offset_values none = no_values
offset_values (some o) = values 1 o 0

abbrev pub owed_reply : Answer (Option ℕ) → Reply
owed_reply a = coded offset_values no_values a

-- kind, number and how many headers; from the fifth place on how many items, and the two numbers named. Eight places in all.
abbrev pub info_values : Info → Values
info_values i = values i.kind i.number (length i.headers)

abbrev pub more_told : Answer Info → Values
more_told (done i) = values i.items i.first i.second
more_told (refused r) = no_values

abbrev pub longer : Reply → Values → Reply
longer r v = record { number = r.number; out = r.out ++ (v.first ∷ v.second ∷ v.third ∷ 0 ∷ []) }

abbrev pub entry_reply : Answer Info → Reply
entry_reply a = longer (coded info_values no_values a) (more_told a)

-- one of the headers by its place, or 3
abbrev pub nth : List Header → ℕ → Answer Header
nth [] k = refused (record { number = 3; told = none })
nth (h ∷ hs) zero = done h
nth (h ∷ hs) (suc k) = nth hs k

abbrev pub header_in : Answer Info → ℕ → Answer Header
header_in (done i) k = nth i.headers k
header_in (refused r) k = refused r

-- Order: 1, 2, 3. Refused as the entry call is, and 3 for a place not below the number of headers.
unfoldable pub header_call : Shape → Log → ℕ → ℕ → Answer Header
header_call sh log o k = header_in (entry_call sh log o) k

abbrev pub header_values : Header → Values
header_values h = values h.object h.format h.pointer

abbrev pub header_reply : Answer Header → Reply
header_reply a = coded header_values no_values a

-- the items of the entry at o: byte position in the log, length in bytes. Refused as the entry call is.
abbrev pub items_reply : ℕ → Answer Info → Reply
items_reply o a = coded (λ i. values (items_at o) (item_size * i.items) 0) no_values a

-- that part of the log's bytes
abbrev pub part_said : Reply → List ℕ → List ℕ
part_said r log = take (get_or r.out 1 0) (drop (get_or r.out 0 0) log)

-- 1 and the entry's offset, or 0 and 0; then the reader
abbrev pub next_values : ℕ → Option ℕ → Values
next_values reader none = values 0 0 reader
next_values reader (some o) = values 1 o reader

abbrev pub next_reply : Next → Reply
next_reply n = coded (next_values n.reader) (values 0 0 n.reader) n.found

abbrev pub number_reply : Answer ℕ → Reply
number_reply a = coded (λ n. values n 0 0) no_values a

abbrev pub list_reply : Listed → Replied
list_reply l = record { reply = number_reply l.count; lent = l.list }

-- ---- appending

abbrev pub append_reply : Appended → Replied
append_reply a = record { reply = number_reply a.new_tail; lent = a.bytes }

-- ---- replicas

abbrev pub replica_values : Replica → Values
replica_values r = values r.hosting r.position r.count

abbrev pub open_reply : Answer Replica → Reply
open_reply a = coded replica_values no_values a

-- the record is said with every refusal too: as it was left
abbrev pub stand_reply : Replica → Answer (Unit {0}) → Reply
stand_reply r a = coded (λ u. replica_values r) (replica_values r) a

abbrev pub left_reply : Left → Replied
left_reply l = record { reply = stand_reply l.replica l.answer; lent = l.table }

-- 0 never written, 1 holds a value, 2 removed; the value; the version
abbrev pub content_values : ℕ → Option ℕ → Values
content_values version none = values 2 0 version
content_values version (some x) = values 1 x version

abbrev pub cell_values : Option Held → Values
cell_values none = no_values
cell_values (some h) = content_values h.version h.content

abbrev pub cell_reply : Answer (Option Held) → Reply
cell_reply a = coded cell_values no_values a

-- the total in its two parts of 64 bits
abbrev pub price_reply : Answer ℕ → Reply
price_reply a = coded (λ t. values (high_part t) (low_part t) 0) no_values a
