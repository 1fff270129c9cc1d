-- A list of appends as values is a history of the model: its promises give the model's logs, its feed and its run.
use Prim.Native.Nat.{ℕ, zero, suc}
use mathlib.Core.Path.{◌≡◌, refl, ap, sym, ◌∙◌, subst}
use mathlib.Core.Bool.{Bool}
use mathlib.Core.List.{List, [], ◌∷◌, ◌++◌, map}
use lib.ListN.{take}
use Rattle.model.specs.Directory.{shape_of}
use Rattle.model.specs.Append as model
use Rattle.model.specs.Run.{Fed, start, run_at}
use Rattle.model.specs.Histories.{Lent, is_refused, tail_after, after, grown, feed, History, whole_log, stood, ran_to}
use Rattle.calls.specs.Values.{AppendCall, seen, tail_left, Grows, left_by, Appends, last_log, log_after, fed_by, ran}
use Rattle.calls.proofs.Promises.{append-promise}

abbrev pub lent : List ℕ → ℕ → Lent
lent bytes tail = record { bytes = bytes; tail = tail }

abbrev pub requests : List AppendCall → List model.Request
requests cs = map (λ (c : AppendCall). (seen c).request) cs

-- the history that the appends make
abbrev pub history : Appends → History
history a = record { bytes = a.bytes; requests = requests a.calls }

-- what one call leaves
pub left_after : (d : List ℕ) (c : AppendCall) (bytes : List ℕ) (tail : ℕ) → (seen c).dir ≡ d → (seen c).bytes ≡ bytes → (seen c).tail ≡ tail → after (shape_of d) (lent bytes tail) (seen c).request ≡ lent (seen c).left (tail_left c)
left_after d c bytes tail i e f =
    ap (λ (l : Lent). after (shape_of d) l (seen c).request) (λ j. record { bytes = sym e j; tail = sym f j })
    ∙ ap (λ (x : model.Appended). lent x.bytes (tail_after (seen c).tail x.new_tail)) (ap (λ (x : List ℕ). model.append (shape_of x) (seen c).bytes (seen c).tail (seen c).request) (sym i) ∙ sym (append-promise c))

-- whether it was refused
fed-after : (d : List ℕ) (c : AppendCall) (bytes : List ℕ) (tail : ℕ) → (seen c).dir ≡ d → (seen c).bytes ≡ bytes → (seen c).tail ≡ tail
    → is_refused (model.append (shape_of d) bytes tail (seen c).request).new_tail ≡ (fed_by c).was_refused
fed-after d c bytes tail i e f =
    ap (λ (l : Lent). is_refused (model.append (shape_of d) l.bytes l.tail (seen c).request).new_tail) (λ j. record { bytes = sym e j; tail = sym f j })
    ∙ ap (λ (x : model.Appended). is_refused x.new_tail) (ap (λ (x : List ℕ). model.append (shape_of x) (seen c).bytes (seen c).tail (seen c).request) (sym i) ∙ sym (append-promise c))

pub left_grown : (d bytes : List ℕ) (tail : ℕ) (cs : List AppendCall) → Grows d bytes tail cs → grown (shape_of d) (lent bytes tail) (requests cs) ≡ left_by bytes tail cs
unfolding Grows left_by grown
left_grown d bytes tail [] g = refl
left_grown d bytes tail (c ∷ cs) (i, e, f, g) =
    ap (λ (l : Lent). grown (shape_of d) l (requests cs)) (left_after d c bytes tail i e f) ∙ left_grown d (seen c).left (tail_left c) cs g

left-fed : (d bytes : List ℕ) (tail : ℕ) (cs : List AppendCall) → Grows d bytes tail cs → feed (shape_of d) (lent bytes tail) (requests cs) ≡ map fed_by cs
unfolding Grows feed
left-fed d bytes tail [] g = refl
left-fed d bytes tail (c ∷ cs) (i, e, f, g) =
    ap (λ (x : Bool). record { request = (seen c).request; was_refused = x } ∷ feed (shape_of d) (after (shape_of d) (lent bytes tail) (seen c).request) (requests cs)) (fed-after d c bytes tail i e f)
    ∙ ap (λ (l : Lent). fed_by c ∷ feed (shape_of d) l (requests cs)) (left_after d c bytes tail i e f)
    ∙ ap (λ (fs : List Fed). fed_by c ∷ fs) (left-fed d (seen c).left (tail_left c) cs g)

-- the first n calls

grows-take : (n : ℕ) (d bytes : List ℕ) (tail : ℕ) (cs : List AppendCall) → Grows d bytes tail cs → Grows d bytes tail (take n cs)
unfolding Grows
grows-take zero d bytes tail cs g = tt
grows-take (suc n) d bytes tail [] g = tt
grows-take (suc n) d bytes tail (c ∷ cs) (i, e, f, g) = (i, e, f, grows-take n d (seen c).left (tail_left c) cs g)

take-requests : (n : ℕ) (cs : List AppendCall) → take n (requests cs) ≡ requests (take n cs)
take-requests zero cs = refl
take-requests (suc n) [] = refl
take-requests (suc n) (c ∷ cs) = ap (λ (qs : List model.Request). (seen c).request ∷ qs) (take-requests n cs)

-- ---- the log at the turn of one of them

requests-append : (xs ys : List AppendCall) → requests (xs ++ ys) ≡ requests xs ++ requests ys
requests-append [] ys = refl
requests-append (x ∷ xs) ys = ap (λ (qs : List model.Request). (seen x).request ∷ qs) (requests-append xs ys)

turn-log : (d bytes : List ℕ) (tail : ℕ) (before : List AppendCall) (c : AppendCall) (later : List AppendCall) → Grows d bytes tail (before ++ c ∷ later)
    → grown (shape_of d) (lent bytes tail) (requests before) ≡ lent (seen c).bytes (seen c).tail
unfolding Grows grown
turn-log d bytes tail [] c later (i, e, f, g) = λ j. lent (sym e j) (sym f j)
turn-log d bytes tail (x ∷ xs) c later (i, e, f, g) =
    ap (λ (l : Lent). grown (shape_of d) l (requests xs)) (left_after d x bytes tail i e f) ∙ turn-log d (seen x).left (tail_left x) xs c later g

-- its directory
turn-of : (d bytes : List ℕ) (tail : ℕ) (before : List AppendCall) (c : AppendCall) (later : List AppendCall) → Grows d bytes tail (before ++ c ∷ later) → (seen c).dir ≡ d
unfolding Grows
turn-of d bytes tail [] c later (i, e, f, g) = i
turn-of d bytes tail (x ∷ xs) c later (i, e, f, g) = turn-of d (seen x).left (tail_left x) xs c later g

module _ (a : Appends) where
  pub turn-dir : (before : List AppendCall) (c : AppendCall) (later : List AppendCall) → a.calls ≡ before ++ c ∷ later → (seen c).dir ≡ a.dir
  turn-dir before c later e = turn-of a.dir a.bytes 0 before c later (subst (Grows a.dir a.bytes 0) e a.grows)

  pub requests-split : (before : List AppendCall) (c : AppendCall) (later : List AppendCall) → a.calls ≡ before ++ c ∷ later
      → requests a.calls ≡ requests before ++ (seen c).request ∷ requests later
  requests-split before c later e = ap requests e ∙ requests-append before (c ∷ later)

  pub turn-left : (before : List AppendCall) (c : AppendCall) (later : List AppendCall) → a.calls ≡ before ++ c ∷ later
      → grown (shape_of a.dir) (lent a.bytes 0) (requests before) ≡ lent (seen c).bytes (seen c).tail
  turn-left before c later e = turn-log a.dir a.bytes 0 before c later (subst (Grows a.dir a.bytes 0) e a.grows)

  pub whole-left : whole_log (shape_of a.dir) (history a) ≡ last_log a
  whole-left = left_grown a.dir a.bytes 0 a.calls a.grows

  pub stood-left : (n : ℕ) → stood (shape_of a.dir) (history a) n ≡ log_after a n
  stood-left n =
      ap (λ (qs : List model.Request). grown (shape_of a.dir) (lent a.bytes 0) qs) (take-requests n a.calls)
      ∙ left_grown a.dir a.bytes 0 (take n a.calls) (grows-take n a.dir a.bytes 0 a.calls a.grows)

  pub ran-so : (p : ℕ) → ran_to (shape_of a.dir) (history a) p ≡ ran a p
  ran-so p = ap (run_at p start) (left-fed a.dir a.bytes 0 a.calls a.grows)
