-- `op::effects::rule_effect` meets its contract: at each arm's number the rule computes to the arm's effect.
-- Assumes nothing.
use Prim.Native.Nat.{ℕ}
use borrow.Author.Tests.{eq-eqb, ne_eqb}
use Rattle.op.specs.Effects.{effect_by}
use Rattle.op.specs.Inner.{rule_at}
use Rattle.base.proofs.Keys.{at}
use Rattle.op.proofs.Rules.{last_rule}
use Rattle.op.proofs.effects.rule_effect.Goals as goal

pub returns-in-0 : goal.returns-in-0
unfolding effect_by
returns-in-0 c = at (λ (e : ℕ). effect_by (rule_at e) c.args.m c.args.n) c.in-0.is

pub returns-in-1 : goal.returns-in-1
unfolding effect_by
returns-in-1 c = at (λ (e : ℕ). effect_by (rule_at e) c.args.m c.args.n) c.in-1.is

pub returns-in-2 : goal.returns-in-2
unfolding effect_by
returns-in-2 c = at (λ (e : ℕ). effect_by (rule_at e) c.args.m c.args.n) c.in-2.is

pub returns-in-3 : goal.returns-in-3
unfolding effect_by
returns-in-3 c = at (λ (e : ℕ). effect_by (rule_at e) c.args.m c.args.n) c.in-3.is

pub returns-in-4 : goal.returns-in-4
unfolding effect_by
returns-in-4 c = at (λ (e : ℕ). effect_by (rule_at e) c.args.m c.args.n) c.in-4.is

pub returns-in-5 : goal.returns-in-5
unfolding effect_by
returns-in-5 c = at (λ (e : ℕ). effect_by (rule_at e) c.args.m c.args.n) c.in-5.is

pub returns-in-6 : goal.returns-in-6
unfolding effect_by
returns-in-6 c = at (λ (e : ℕ). effect_by (rule_at e) c.args.m c.args.n) c.in-6.is

pub returns-in-7 : goal.returns-in-7
unfolding effect_by
returns-in-7 c = at (λ (e : ℕ). effect_by (rule_at e) c.args.m c.args.n) c.in-7.is

pub returns-in-8 : goal.returns-in-8
unfolding effect_by
returns-in-8 c = at (λ (e : ℕ). effect_by (rule_at e) c.args.m c.args.n) c.in-8.is

pub returns-in-9 : goal.returns-in-9
unfolding effect_by
returns-in-9 c = at (λ (e : ℕ). effect_by (rule_at e) c.args.m c.args.n) c.in-9.is

pub returns-in-10 : goal.returns-in-10
unfolding effect_by
returns-in-10 c = at (λ (e : ℕ). effect_by (rule_at e) c.args.m c.args.n) c.in-10.is

pub returns-in-11 : goal.returns-in-11
unfolding effect_by
returns-in-11 c = at (λ (e : ℕ). effect_by (rule_at e) c.args.m c.args.n) c.in-11.is

pub returns-in-12 : goal.returns-in-12
unfolding effect_by
returns-in-12 c = at (λ (e : ℕ). effect_by (rule_at e) c.args.m c.args.n) c.in-12.is

pub returns-in-13 : goal.returns-in-13
unfolding effect_by
returns-in-13 c = at (λ (e : ℕ). effect_by (rule_at e) c.args.m c.args.n) c.in-13.is

pub returns-in-14 : goal.returns-in-14
unfolding effect_by
returns-in-14 c = at (λ (e : ℕ). effect_by (rule_at e) c.args.m c.args.n) c.in-14.is

pub returns-in-15 : goal.returns-in-15
unfolding effect_by
returns-in-15 c = at (λ (e : ℕ). effect_by (rule_at e) c.args.m c.args.n) c.in-15.is

pub returns-in-16 : goal.returns-in-16
unfolding effect_by
returns-in-16 c = at (λ (e : ℕ). effect_by (rule_at e) c.args.m c.args.n) c.in-16.is

pub returns-then-n-eq1 : goal.returns-then-n-eq1
unfolding effect_by
returns-then-n-eq1 c = simp (last_rule c.args.rule c.in_default.in_default-own.rest, eq-eqb _ 1 c.if-n-eq1.true)

pub returns-else-n-eq1 : goal.returns-else-n-eq1
unfolding effect_by
returns-else-n-eq1 c = simp (last_rule c.args.rule c.in_default.in_default-own.rest, ne_eqb _ 1 c.if-n-eq1.false)
