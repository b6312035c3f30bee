-- Lists filled with a result's numbers, and the calls behind them.
pub mod Laws
