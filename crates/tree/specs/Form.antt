-- How keys are laid out in a tree: each has a head, the slot where its way begins, and a rest, whose bits are the way from there.
use Rattle.std.specs.Prelude.{◌≡◌, ℕ, ◌+◌, ◌*◌, ◌/◌, ◌%◌, ◌^◌, ◌≤◌, ◌<◌}
use Rattle.std.proofs.Common.{ap₂, sym, ◌∙◌, div-add-mod', mod-lt, div-lt_iff_lt-mul, arith}

-- what the slots hold is below it
abbrev pub word_end : ℕ
word_end = 4294967296

-- the keys are the numbers from `first` up to `end`
pub record Form : Type 0 where
  pub heads : ℕ
  pub head : ℕ → ℕ
  pub rest : ℕ → ℕ
  pub first : ℕ
  pub end : ℕ

-- the head is one of the heads, and with the rest it is the key
pub record Formed (f : Form) : Type 0 where
  pub within : (k : ℕ) → f.head k < f.heads
  pub apart : (k l : ℕ) → f.head k ≡ f.head l → f.rest k ≡ f.rest l → k ≡ l

pub heads-some : {f : Form} → Formed f → 1 ≤ f.heads
heads-some {f} w = omega (arith, w.within 0)

-- no key's rest has more than b bits
abbrev pub Bits : Form → ℕ → Type 0
Bits f b = (k : ℕ) → k < f.end → f.rest k < 2 ^ b

-- ---- numbers of 32 bits by their remainder; 0 is no key

abbrev pub by_remainder : ℕ → Form
by_remainder heads = record { heads = heads; head = λ k. k % heads; rest = λ k. k / heads; first = 1; end = word_end }

pub remainder-formed : (heads : ℕ) → 1 ≤ heads → Formed (by_remainder heads)
remainder-formed heads s = record {
  within = λ k. mod-lt k s;
  apart = λ k l e r. sym (div-add-mod' k heads) ∙ ap₂ (λ (x y : ℕ). x * heads + y) r e ∙ div-add-mod' l heads;
}

pub remainder-bits : (heads b : ℕ) → 1 ≤ heads → word_end ≤ 2 ^ b * heads → Bits (by_remainder heads) b
remainder-bits heads b s enough k l = let m : k < 2 ^ b * heads = omega arith in (div-lt_iff_lt-mul s).1 m

-- ---- numbers of 64 bits by any head, each with all its bits

abbrev pub by_head : ℕ → (ℕ → ℕ) → Form
by_head heads head = record { heads = heads; head = head; rest = λ k. k; first = 0; end = 2 ^ 64 }

pub head-formed : (heads : ℕ) (head : ℕ → ℕ) → ((k : ℕ) → head k < heads) → Formed (by_head heads head)
head-formed heads head w = record { within = w; apart = λ k l e r. r }

pub head-bits : (heads : ℕ) (head : ℕ → ℕ) → Bits (by_head heads head) 64
head-bits heads head k l = l
