-- What the contracts of src/ cite.

-- the tests of a span, on its neighbours; what a free comes to
pub mod SpanTests
-- a span that could have been held, on all the holes
pub mod Spans
