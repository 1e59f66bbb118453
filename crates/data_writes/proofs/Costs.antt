-- How many leaves a write changes.
use Rattle.std.proofs.Common.{◌≡◌, ◌⊎◌, ℕ, ◌+◌, ◌-◌, ◌*◌, ◌<◌, ◌≤◌, refl, inl, inr, arith}
use Rattle.std.specs.Prelude.{min}
use Rattle.std.proofs.lemmas.Bool.{cases_lt}
use Rattle.std.proofs.Math.Nat.{mul-le-mul_right}
use Rattle.data_writes.specs.Writing.{LeafCost, CostRest}

pub cost_start : (room before from n size : ℕ) → 0 < room → CostRest room before before from n 0 size from n
cost_start room before from n size some = record {
  leaves = 0;
  head = 0;
  tail = 0;
  most = omega arith;
  paid = omega arith;
  head_fits = some;
  tail_fits = some;
  start = λ e. (refl, e);
  open_end = λ h. refl;
  once = inl refl;
  at = λ h. omega arith;
  closed = inl refl;
  none = λ h. refl;
  fewer = omega arith;
}

passed_one : (i size : ℕ) → (i + 1) * size ≡ i * size + size
passed_one i size = omega arith

pub cost_next : {room before now later from n i size place left : ℕ} → (r : CostRest room before now from n i size place left) → (m : ℕ) → LeafCost room now later place m size → m ≡ min (size - place) left → (place2 left2 : ℕ) → place2 ≡ place - size → left ≡ m + left2 → 0 < size
    → CostRest room before later from n (i + 1) size place2 left2
cost_next {room = room} {before = before} {now = now} {later = later} {from = from} {n = n} {i = i} {size = size} {place = place} {left = left} r m c is place2 left2 lower rest positive =
    elim (cases_lt 0 m) [
      | inr none ↦
          let m0 : m ≡ 0 = omega arith in
          let free : c.leaves ≡ 0 = c.none m0 in
          record {
            leaves = r.leaves;
            head = r.head;
            tail = r.tail;
            most = omega (arith, r.most, c.most, free);
            paid = omega (arith, r.paid, rest, m0);
            head_fits = r.head_fits;
            tail_fits = r.tail_fits;
            start = λ e. ((r.start e).0, omega (arith, lower, (r.start e).1));
            open_end = λ h. r.open_end (omega (arith, rest, h));
            once = elim r.once [ inl e ↦ inl e | inr e ↦ inr (omega (arith, lower, e)) ];
            at = λ h. omega (arith, r.at (omega (arith, rest, h)), passed_one i size, lower, rest, is, m0);
            closed = elim r.closed [ inl e ↦ inl e | inr e ↦ inr (omega (arith, e, passed_one i size)) ];
            none = r.none;
            fewer = omega (arith, r.fewer, rest);
          }
      | inl some ↦
          let open_now : r.tail ≡ 0 = r.open_end (omega (arith, rest, some)) in
          let here = r.at (omega (arith, rest, some)) in
          record {
            leaves = r.leaves + c.leaves;
            head = r.head + c.head;
            tail = c.tail;
            most = omega (arith, r.most, c.most);
            paid = omega (arith, r.paid, c.paid, rest, open_now);
            head_fits = elim r.once [ inl e ↦ omega (arith, e, c.head_fits) | inr e ↦ omega (arith, c.start e, r.head_fits) ];
            tail_fits = c.tail_fits;
            start = λ e. (omega (arith, (r.start e).0, c.start (r.start e).1), omega (arith, lower, (r.start e).1));
            open_end = λ h. c.end (omega (arith, is, rest, h));
            once = inr (omega (arith, lower, is, some));
            at = λ h. omega (arith, here, passed_one i size, lower, rest, is, h);
            closed = elim (cases_lt (place + m) size) [
              | inl lt ↦ inr (omega (arith, here, passed_one i size, rest, is, lt))
              | inr ge ↦ inl (c.end ge)
            ];
            none = λ e. absurd (omega (arith, r.fewer, rest, some, e));
            fewer = omega (arith, r.fewer, rest);
          }
    ]

pub cost_done : {room before now from n i size place left : ℕ} (most : ℕ) → CostRest room before now from n i size place left → i ≤ most → LeafCost room before now from n (most * size)
cost_done {room = room} {before = before} {now = now} {from = from} {n = n} {i = i} {size = size} {place = place} {left = left} most r le = record {
  leaves = r.leaves;
  head = r.head;
  tail = r.tail;
  most = r.most;
  paid = omega (arith, r.paid);
  head_fits = r.head_fits;
  tail_fits = r.tail_fits;
  start = λ e. (r.start e).0;
  end = λ h. elim r.closed [ inl e ↦ e | inr e ↦ absurd (omega (arith, e, h, mul-le-mul_right size le)) ];
  none = r.none;
}

pub cost_none : (room before after from n all : ℕ) → 0 < room → after ≤ before → LeafCost room before after from n all
cost_none room before after from n all some le = record {
  leaves = 0;
  head = 0;
  tail = 0;
  most = omega arith;
  paid = omega arith;
  head_fits = some;
  tail_fits = some;
  start = λ e. refl;
  end = λ e. refl;
  none = λ e. refl;
}

pub cost_leaf : (room before after from n all len : ℕ) → 0 < room → 0 < n → len ≤ room → all ≡ room → (after ≤ before) ⊎ ((after ≤ before + 1) × (from + n ≤ len)) → LeafCost room before after from n all
cost_leaf room before after from n all len some bytes fits is (inl le) = cost_none room before after from n all some le
cost_leaf room before after from n all len some bytes fits is (inr one) = record {
  leaves = 1;
  head = from;
  tail = room - (from + n);
  most = one.0;
  paid = omega (arith, one.1);
  head_fits = omega (arith, one.1);
  tail_fits = omega arith;
  start = λ e. e;
  end = λ h. omega arith;
  none = λ e. absurd (omega arith);
}

pub cost_same : (room before mid after from n all all2 : ℕ) → mid ≤ before → all ≡ all2 → LeafCost room mid after from n all → LeafCost room before after from n all2
cost_same room before mid after from n all all2 le is c = record {
  leaves = c.leaves;
  head = c.head;
  tail = c.tail;
  most = omega (arith, c.most);
  paid = c.paid;
  head_fits = c.head_fits;
  tail_fits = c.tail_fits;
  start = c.start;
  end = λ h. c.end (omega arith);
  none = c.none;
}

-- so it is one leaf for each that the bytes fill, and two more at most less one
pub cost_few : {room before after from n all : ℕ} → (c : LeafCost room before after from n all) → (q : ℕ) → n ≤ q * room → after ≤ before + (q + 1)
cost_few {room = room} {before = before} {after = after} {n = n} c q fits =
    elim (cases_lt c.leaves (q + 2)) [
      | inl lt ↦ omega (arith, c.most)
      | inr ge ↦
          let much : (q + 2) * room ≤ c.leaves * room = mul-le-mul_right room ge in
          absurd (omega (arith, much, c.paid, c.head_fits, c.tail_fits, fits))
    ]
