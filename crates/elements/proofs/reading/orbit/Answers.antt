-- `elements::orbit` meets its contract: fields 1 to 7, row after row.
use mathlib.Core.Path.{refl}
use Rattle.std.proofs.Common.{rules}
use lib.Ieee.{round, of_bits}
use Rattle.nearest.specs.Nearest.{decimal}
use Rattle.refusal.specs.Rows.{first}
use Rattle.elements.specs.Reading.{field_rows}
use Rattle.refusal.proofs.Order.{goes_on, ends_at, is_last}
use Rattle.elements.proofs.Ranges.{included, excluded}
use Rattle.elements.proofs.reading.orbit.Goals as goal

pub returns-in_err-field : goal.returns-in_err-field
unfolding field_rows first decimal round of_bits
returns-in_err-field c = ends_at _ _ (search rules) (included _ _ _ c.in_err-field.ensures c.new.ensures.start c.new.ensures.end)

pub returns-in_err-field-2 : goal.returns-in_err-field-2
unfolding field_rows first decimal round of_bits
returns-in_err-field-2 c =
    goes_on _ _ (included _ _ _ c.in_ok-field.ensures c.new.ensures.start c.new.ensures.end)
    (ends_at _ _ (search rules) (included _ _ _ c.in_err-field-2.ensures c.new-2.ensures.start c.new-2.ensures.end))

pub returns-in_err-field-3 : goal.returns-in_err-field-3
unfolding field_rows first decimal round of_bits
returns-in_err-field-3 c =
    goes_on _ _ (included _ _ _ c.in_ok-field.ensures c.new.ensures.start c.new.ensures.end)
    (goes_on _ _ (included _ _ _ c.in_ok-field-2.ensures c.new-2.ensures.start c.new-2.ensures.end)
    (ends_at _ _ (search rules) (included _ _ _ c.in_err-field-3.ensures c.new-3.ensures.start c.new-3.ensures.end)))

pub returns-in_err-field-4 : goal.returns-in_err-field-4
unfolding field_rows first decimal round of_bits
returns-in_err-field-4 c =
    goes_on _ _ (included _ _ _ c.in_ok-field.ensures c.new.ensures.start c.new.ensures.end)
    (goes_on _ _ (included _ _ _ c.in_ok-field-2.ensures c.new-2.ensures.start c.new-2.ensures.end)
    (goes_on _ _ (included _ _ _ c.in_ok-field-3.ensures c.new-3.ensures.start c.new-3.ensures.end)
    (ends_at _ _ (search rules) (excluded _ _ _ c.in_err-field-4.ensures refl refl))))

pub returns-in_err-field-5 : goal.returns-in_err-field-5
unfolding field_rows first decimal round of_bits
returns-in_err-field-5 c =
    goes_on _ _ (included _ _ _ c.in_ok-field.ensures c.new.ensures.start c.new.ensures.end)
    (goes_on _ _ (included _ _ _ c.in_ok-field-2.ensures c.new-2.ensures.start c.new-2.ensures.end)
    (goes_on _ _ (included _ _ _ c.in_ok-field-3.ensures c.new-3.ensures.start c.new-3.ensures.end)
    (goes_on _ _ (excluded _ _ _ c.in_ok-field-4.ensures refl refl)
    (ends_at _ _ (search rules) (excluded _ _ _ c.in_err-field-5.ensures refl refl)))))

pub returns-in_err-field-6 : goal.returns-in_err-field-6
unfolding field_rows first decimal round of_bits
returns-in_err-field-6 c =
    goes_on _ _ (included _ _ _ c.in_ok-field.ensures c.new.ensures.start c.new.ensures.end)
    (goes_on _ _ (included _ _ _ c.in_ok-field-2.ensures c.new-2.ensures.start c.new-2.ensures.end)
    (goes_on _ _ (included _ _ _ c.in_ok-field-3.ensures c.new-3.ensures.start c.new-3.ensures.end)
    (goes_on _ _ (excluded _ _ _ c.in_ok-field-4.ensures refl refl)
    (goes_on _ _ (excluded _ _ _ c.in_ok-field-5.ensures refl refl)
    (ends_at _ _ (search rules) (included _ _ _ c.in_err-field-6.ensures c.new-4.ensures.start c.new-4.ensures.end))))))

pub returns : goal.returns
unfolding field_rows first decimal round of_bits
returns c =
    goes_on _ _ (included _ _ _ c.in_ok-field.ensures c.new.ensures.start c.new.ensures.end)
    (goes_on _ _ (included _ _ _ c.in_ok-field-2.ensures c.new-2.ensures.start c.new-2.ensures.end)
    (goes_on _ _ (included _ _ _ c.in_ok-field-3.ensures c.new-3.ensures.start c.new-3.ensures.end)
    (goes_on _ _ (excluded _ _ _ c.in_ok-field-4.ensures refl refl)
    (goes_on _ _ (excluded _ _ _ c.in_ok-field-5.ensures refl refl)
    (goes_on _ _ (included _ _ _ c.in_ok-field-6.ensures c.new-4.ensures.start c.new-4.ensures.end)
    (is_last _ (included _ _ _ c.field-7.ensures c.new-5.ensures.start c.new-5.ensures.end)))))))
