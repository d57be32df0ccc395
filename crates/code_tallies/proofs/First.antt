-- The codes of the cells that are not NULL are those from the first on.
use Rattle.std.proofs.Common.{◌≡◌, ℕ, zero, suc, ◌<◌, ◌≤◌, inl, inr, true, false, not, nat_le, cond, refl, sym, ◌∙◌, ap, arith}
use Rattle.std.specs.declared.cmp.Ordering.TheVariants.{Less, Greater}
use Rattle.std.specs.Cmp.{nat_cmp_is}
use Rattle.std.specs.Ordering.{nat_cmp}
use Rattle.std.proofs.lemmas.Bool.{cases_Bool, le-leb}
use Rattle.std.proofs.lemmas.Cmp.{ranked}
use Rattle.cs_types.specs.declared.Value.{Value}
use Rattle.cs_types.specs.declared.Value.TheVariants.{Null, Number, Text}
use Rattle.cs_types.specs.Values.{value_cmp}
use Rattle.cs_model.specs.Items.{is_null}
use Rattle.column_segment.specs.declared.body.SegmentBody.{SegmentBody}
use Rattle.column_segment.specs.Bodies.{cell_of_code, IsKnown}

-- cells compare as codes do
abbrev pub InOrder : Type 0
InOrder = (body : SegmentBody) (code other : ℕ) → IsKnown body code → IsKnown body other → nat_cmp code other ≡ value_cmp (cell_of_code body code) (cell_of_code body other)

null_is : (v : Value) → is_null v ≡ true → v ≡ Null
null_is Null e = refl
null_is (Number n) e = absurd (cc e)
null_is (Text t) e = absurd (cc e)

after_null : (v : Value) → value_cmp v Null ≡ Greater → is_null v ≡ false
after_null Null e = absurd (cc e)
after_null (Number n) e = refl
after_null (Text t) e = refl

before_some : (v : Value) → is_null v ≡ false → value_cmp Null v ≡ Less
before_some Null e = absurd (cc e)
before_some (Number n) e = refl
before_some (Text t) e = refl

module _ (body : SegmentBody) (last : ℕ) (in_order : InOrder) (known : (code : ℕ) → code ≤ last → IsKnown body code) where
  past : is_null (cell_of_code body 0) ≡ true → (code : ℕ) → code ≤ last → not (is_null (cell_of_code body code)) ≡ nat_le 1 code
  past null zero within = ap not null ∙ refl
  past null (suc n) within =
      let after : nat_cmp (suc n) 0 ≡ Greater = sym (nat_cmp_is (suc n) 0 Greater (omega arith)) in
      let compared : value_cmp (cell_of_code body (suc n)) Null ≡ Greater
      = sym (ap (value_cmp (cell_of_code body (suc n))) (null_is (cell_of_code body 0) null))
      ∙ sym (in_order body (suc n) 0 (known (suc n) within) (known 0 (omega arith))) ∙ after in
      ap not (after_null (cell_of_code body (suc n)) compared) ∙ sym (le-leb 1 (suc n) (omega arith))

  all : is_null (cell_of_code body 0) ≡ false → (code : ℕ) → code ≤ last → not (is_null (cell_of_code body code)) ≡ nat_le 0 code
  all some code within = elim (cases_Bool (is_null (cell_of_code body code))) [
    | inl null ↦
        let less : nat_cmp code 0 ≡ Less
        = in_order body code 0 (known code within) (known 0 (omega arith))
        ∙ ap (λ v. value_cmp v (cell_of_code body 0)) (null_is (cell_of_code body code) null)
        ∙ before_some (cell_of_code body 0) some in
        let below : code < 0 = ranked code 0 Less (sym less) in
        absurd (omega (arith, below))
    | inr there ↦ ap not there ∙ sym (le-leb 0 code (omega arith))
  ]

  pub first-codes : (first : ℕ) → first ≡ cond (is_null (cell_of_code body 0)) 1 0 → (code : ℕ) → code ≤ last → not (is_null (cell_of_code body code)) ≡ nat_le first code
  first-codes first is code within = elim (cases_Bool (is_null (cell_of_code body 0))) [
    | inl null ↦ past null code within ∙ ap (λ n. nat_le n code) (sym (is ∙ ap (λ b. cond b 1 0) null))
    | inr some ↦ all some code within ∙ ap (λ n. nat_le n code) (sym (is ∙ ap (λ b. cond b 1 0) some))
  ]
