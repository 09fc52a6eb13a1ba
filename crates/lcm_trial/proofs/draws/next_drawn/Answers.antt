-- The sum is taken modulo 2^64 at once, or once the product was.
use Rattle.std.proofs.Common.{◌≡◌, ◌+◌, ◌*◌, ◌/◌, ◌%◌, ◌^◌, ◌∙◌, ℕ, ap, arith, sym}
use Rattle.std.proofs.Math.Nat.{add-mul-mod_self_left, mod-add-div}
use Rattle.lcm_trial.specs.Draws.{next_drawn}
use Rattle.lcm_trial.proofs.draws.next_drawn.Goals as goal

-- a sum modulo a number is that of what is left of its first part
left_first : (x c w : ℕ) → (x + c) % w ≡ (x % w + c) % w
left_first x c w =
    let whole = mod-add-div x w in
    let split : x + c ≡ (x % w + c) + w * (x / w) = omega (arith, whole) in
    ap (λ (n : ℕ). n % w) split ∙ add-mul-mod_self_left (x % w + c) w (x / w)

pub returns : goal.returns
unfolding next_drawn
returns c = sym (left_first (c.args.drawn * 6364136223846793005) 1442695040888963407 (2 ^ 64))
