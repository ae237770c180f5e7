-- The bench cards as bytes.
pub mod Cards
-- request 103 worked out: conditions in entries and in applies_to
pub mod ConditionalCards
-- request 106 worked out: rights lost at each step
pub mod StepCards
