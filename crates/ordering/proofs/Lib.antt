-- `Order`: `lt` on all but NaN is the order of whole numbers. `Least`: the least over several answers, over any order. `Ratio`: a product
-- tells that a ratio is not below a number. `Shortens`: document 01's least; steps that are the least of their limit and what they are without
-- one. `Listed`: the least over a list of such steps.
pub mod Order
pub mod Least
pub mod Ratio
pub mod Shortens
pub mod Listed
